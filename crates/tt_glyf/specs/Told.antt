-- OpenType, "The 'glyf' table", "Glyph Header" and "Simple Glyph Description": the size that a glyph's first bytes
-- declare, and the glyphs that it is made of. The size uses these bytes alone, so a glyph that is refused later may
-- have a size too (profile).
use Rattle.std.specs.Prelude.{◌≡◌, ℕ, ◌+◌, nat_lt, nat_le, int_lt, Bool, false, if◌then◌else◌, ℤ, pos, unsigned_abs, List, [], ◌∷◌, length, take, Result, Ok, Err, refl}
use Rattle.tt_core.specs.Faults.{Fault}
use Rattle.tt_glyf.specs.declared.raw.Record.{Record}
use Rattle.tt_glyf.specs.Defects.{written_points}
use Rattle.tt_glyf.specs.Format.{header_size, size_place}
use Rattle.tt_glyf.specs.GlyphData.{glyph_data_of}
use Rattle.tt_glyf.specs.Loca.{Glyf, glyph_bytes_of}
use Rattle.tt_glyf.specs.Meaning.{contour_count}
use Rattle.tt_glyf.specs.Raw.{Raw, empty, simple, composite}

-- numberOfContours, or 0 if the header is cut
abbrev pub told_contours : List ℕ → ℤ
told_contours bytes = if nat_lt (length bytes) header_size then pos 0 else contour_count bytes

-- the contours, plus the points by the last of endPtsOfContours; 0 if that number is cut
abbrev pub told_outline : List ℕ → ℕ → ℕ
told_outline bytes contours =
    if nat_le (size_place contours) (length bytes) then contours + written_points bytes contours else 0

-- the declared contours and points of a simple glyph; other glyphs declare 0
abbrev pub told_in : List ℕ → ℕ
told_in bytes =
    if int_lt (pos 0) (told_contours bytes) then told_outline bytes (unsigned_abs (told_contours bytes)) else 0

abbrev pub told_by : Result (List ℕ) Fault → ℕ
told_by (Ok bytes) = told_in bytes
told_by (Err f) = 0

-- the declared contours and points of the glyph with a number
unfoldable pub told_size : Glyf → ℕ → ℕ
told_size t g = told_by (glyph_bytes_of t g)

-- whether the number of contours is negative
abbrev pub tells_composite : Result (List ℕ) Fault → Bool
tells_composite (Ok bytes) = int_lt (told_contours bytes) (pos 0)
tells_composite (Err f) = false

abbrev pub records_in : Raw → List Record
records_in empty = []
records_in (simple s) = []
records_in (composite c) = c.records

abbrev pub records_read : Result Raw Fault → List Record
records_read (Ok raw) = records_in raw
records_read (Err f) = []

-- the component records of a glyph, none if it is no composite or cannot be read
unfoldable pub components_of : Glyf → ℕ → List Record
components_of t g = records_read (glyph_data_of t g)

-- worked values: one contour of four points; the same without its last point's number; two contours of seven points; a
-- composite
abbrev four_points : List ℕ
four_points = 0 ∷ 1 ∷ 0 ∷ 64 ∷ 0 ∷ 0 ∷ 0 ∷ 192 ∷ 0 ∷ 128 ∷ 0 ∷ 3 ∷ []

four_points_and_a_contour : told_in four_points ≡ 5
four_points_and_a_contour = refl

its_end_is_cut : told_in (take 11 four_points) ≡ 0
its_end_is_cut = refl

seven_points_and_two_contours :
    told_in (0 ∷ 2 ∷ 0 ∷ 64 ∷ 0 ∷ 0 ∷ 0 ∷ 192 ∷ 0 ∷ 128 ∷ 0 ∷ 3 ∷ 0 ∷ 6 ∷ []) ≡ 9
seven_points_and_two_contours = refl

a_composite_tells_none : told_in (255 ∷ 255 ∷ 0 ∷ 64 ∷ 0 ∷ 0 ∷ 0 ∷ 192 ∷ 0 ∷ 128 ∷ 0 ∷ 2 ∷ 0 ∷ 1 ∷ 0 ∷ 0 ∷ []) ≡ 0
a_composite_tells_none = refl
