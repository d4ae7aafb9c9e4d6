-- Laws of the definitions, as statements; src/laws.rt proves them.
use Rattle.std.specs.Prelude.{◌≡◌, ℕ, ◌*◌, ◌^◌, ◌<◌, List, length, Some}
use Rattle.tt_core.specs.Bits.{stride}
use Rattle.tt_png.specs.Png.{palette, png_length, png_text}
use Rattle.tt_png.specs.Reading.{picture_in}

-- a file has the length that follows from the size of its picture
abbrev pub FilesHaveTheirLength : Type 0
FilesHaveTheirLength = (width height : ℕ) (rows : List ℕ) → length rows ≡ stride width * height
    → length (png_text width height rows) ≡ png_length width height

-- a reader finds the picture in its file
abbrev pub FilesReadBack : Type 0
FilesReadBack = (width height : ℕ) (rows : List ℕ) → width < 2 ^ 32 → height < 2 ^ 32 → length rows ≡ stride width * height
    → picture_in (png_text width height rows)
    ≡ Some (record { width = width; height = height; colours = palette; rows = rows })
