-- No part of the standard: a picture's black pixels as the program stores them: bitmaps at their places, and rows of bytes
-- with the glyphs that have no bitmap.
use Rattle.std.specs.Prelude.{◌≡◌, refl, ℕ, ◌*◌, ◌<◌, Bool, true, false, ◌&&◌, ◌||◌, nat_lt, pos, ◌-ℤ◌, List, [], ◌∷◌, length, map, Option, Some, None}
use Rattle.tt_bitmap.specs.Bands.{column}
use Rattle.tt_bitmap.specs.Bitmaps.{is_black}
use Rattle.tt_core.specs.Bits.{stride}
use Rattle.tt_picture.specs.declared.stamp.PlacedBitmap.{PlacedBitmap}
use Rattle.tt_scan_edges.specs.declared.edge.Frame.{Frame}

-- a bitmap has column c of row r
abbrev pub stamp_shows : PlacedBitmap → ℕ → ℕ → Bool
stamp_shows s c r = is_black s.cut.value.bitmap (pos c -ℤ pos s.column) (s.top -ℤ pos r)

-- one of some bitmaps has it
abbrev pub some_stamp_shows : List PlacedBitmap → ℕ → ℕ → Bool
some_stamp_shows [] c r = false
some_stamp_shows (s ∷ ss) c r = stamp_shows s c r || some_stamp_shows ss c r

-- the bytes of a picture's rows have it, if there are such bytes
abbrev pub rows_show : Frame → Option (List ℕ) → ℕ → ℕ → Bool
rows_show f None c r = false
rows_show f (Some bytes) c r = column (stride f.width) bytes r c

-- the bytes of the rows have it, or one of the bitmaps
abbrev pub picture_shows : Frame → Option (List ℕ) → List PlacedBitmap → ℕ → ℕ → Bool
picture_shows f large stamps c r = rows_show f large c r || some_stamp_shows stamps c r

-- the bytes of all rows of a picture, where the bits after the last pixel of a row are 0
pub record AreRowsOf (f : Frame) (bytes : List ℕ) : Type 0 where
  pub len : length bytes ≡ stride f.width * f.height
  pub padding : (r c : ℕ) → r < f.height → c < 8 * stride f.width
      → column (stride f.width) bytes r c ≡ (nat_lt c f.width && column (stride f.width) bytes r c)

-- worked values: two rows of nine pixels; the last pixel of the first row is black, and the first of the second
nine_wide : Frame
nine_wide = record { width = 9; height = 2; margin = 0; rise = pos 2 }

of_the_first_row : map (λ c. picture_shows nine_wide (Some (0 ∷ 128 ∷ 128 ∷ 0 ∷ [])) [] c 0) (0 ∷ 7 ∷ 8 ∷ []) ≡ false ∷ false ∷ true ∷ []
unfolding nine_wide
of_the_first_row = refl

of_the_second_row : map (λ c. picture_shows nine_wide (Some (0 ∷ 128 ∷ 128 ∷ 0 ∷ [])) [] c 1) (0 ∷ 1 ∷ 8 ∷ []) ≡ true ∷ false ∷ false ∷ []
unfolding nine_wide
of_the_second_row = refl

without_bytes_all_is_white : picture_shows nine_wide None [] 0 1 ≡ false
unfolding nine_wide
without_bytes_all_is_white = refl
