-- The number of a glyph's points, with each component counted as often as it is used. The count bounds the work before
-- the glyph is made (profile). A simple glyph states its own count: OpenType, "The 'glyf' table", "Simple Glyph
-- Description".
use Rattle.std.specs.Prelude.{◌≡◌, ℕ, zero, suc, ◌+◌, ◌-◌, ◌≤◌, nat_le, if◌then◌else◌, List, [], ◌∷◌, length, Option, Some, None, Ok, refl, map}
use Rattle.std.specs.List.{sum_by}
use Rattle.tt_glyf.specs.declared.raw.Record.{Record}
use Rattle.tt_glyf.specs.Bytes.{byte_in, word_in, signed_in, slice_in}
use Rattle.tt_glyf.specs.Composite.{transform_at, argument_at, arguments_at, unscaled, known_glyph, record_at, records_from, program_of, composite_of}
use Rattle.tt_glyf.specs.GlyphData.{glyph_data_of, header_of, described}
use Rattle.tt_glyf.specs.Loca.{Glyf, glyph_bytes_of}
use Rattle.tt_glyf.specs.Told.{told_size, components_of}
use Rattle.tt_metrics.specs.declared.head.LocaFormat.TheVariants.{Short}
use Rattle.tt_fit.specs.Fitting.{Fitter, fitted_outline}
use Rattle.tt_fit_outline.specs.Outline.{Outline}

-- the phantom points of each glyph and each component
abbrev pub phantom_count : ℕ
phantom_count = 4

-- a glyph without its components: its phantom points, and the contours and points stated in its bytes
abbrev pub own_points : Glyf → ℕ → ℕ
own_points t g = phantom_count + told_size t g

-- The count of a glyph with this many levels of components: its own points and its components' counts with one level
-- fewer. With no level, its own points alone.
unfoldable pub points_asked : Glyf → ℕ → ℕ → ℕ
points_asked t zero g = own_points t g
points_asked t (suc levels) g = own_points t g + sum_by (λ r. points_asked t levels r.glyph) (components_of t g)

-- the counts of some components
abbrev pub points_of_all : Glyf → ℕ → List Record → ℕ
points_of_all t levels records = sum_by (λ r. points_asked t levels r.glyph) records

-- a count, if within the limit
abbrev pub counted : ℕ → ℕ → Option ℕ
counted most n = if nat_le n most then Some n else None

-- what remains of the limit after the count
abbrev pub left_of : ℕ → ℕ → Option ℕ
left_of most n = if nat_le n most then Some (most - n) else None

-- an outline's points and contours
abbrev pub outline_size : Outline → ℕ
outline_size o = length o.points + length o.ends

-- an outline has at most as many points and contours as its glyph's count
abbrev pub OutlinesAreCounted : Type 0
OutlinesAreCounted = (s : Fitter) (g : ℕ) (o : Outline) → fitted_outline s g ≡ Ok o
    → outline_size o + phantom_count ≤ points_asked s.tables s.levels g

-- worked values: glyph 0 is empty, glyph 1 a square of four points, glyph 2 two of these, glyph 3 a component that is
-- glyph 3 itself
abbrev its_tables : Glyf
its_tables = record {
  loca = 0 ∷ 0 ∷ 0 ∷ 0 ∷ 0 ∷ 11 ∷ 0 ∷ 22 ∷ 0 ∷ 30 ∷ [];
  glyf = 0 ∷ 1 ∷ 0 ∷ 64 ∷ 0 ∷ 0 ∷ 0 ∷ 192 ∷ 0 ∷ 128 ∷ 0 ∷ 3 ∷ 0 ∷ 0 ∷ 0x33 ∷ 0x35 ∷ 0x33 ∷ 0x15 ∷ 0x40 ∷ 0x80 ∷ 0x80 ∷
      0x80 ∷ 255 ∷ 255 ∷ 0 ∷ 64 ∷ 0 ∷ 0 ∷ 1 ∷ 0 ∷ 0 ∷ 128 ∷ 0 ∷ 0x22 ∷ 0 ∷ 1 ∷ 0 ∷ 0 ∷ 0 ∷ 2 ∷ 0 ∷ 1 ∷ 64 ∷ 0 ∷ 255 ∷
      255 ∷ 0 ∷ 64 ∷ 0 ∷ 0 ∷ 1 ∷ 0 ∷ 0 ∷ 128 ∷ 0 ∷ 2 ∷ 0 ∷ 3 ∷ 0 ∷ 0 ∷ [];
  format = Short;
  glyphs = 4;
}

squares_are_counted : points_asked its_tables 1 2 ≡ 22
unfolding points_asked told_size components_of glyph_data_of glyph_bytes_of header_of described composite_of
    records_from record_at known_glyph arguments_at argument_at transform_at unscaled program_of byte_in word_in
    signed_in slice_in
squares_are_counted = refl

-- with no level left the square is counted, but not two squares
counted_without_a_level : map (points_asked its_tables 0) (1 ∷ 2 ∷ []) ≡ 9 ∷ 4 ∷ []
unfolding points_asked told_size glyph_bytes_of
counted_without_a_level = refl

itself_is_counted_at_each_level : points_asked its_tables 8 3 ≡ 36
unfolding points_asked told_size components_of glyph_data_of glyph_bytes_of header_of described composite_of
    records_from record_at known_glyph arguments_at argument_at transform_at unscaled program_of byte_in word_in
    signed_in slice_in
itself_is_counted_at_each_level = refl

as_many_as_may_be : counted 22 22 ≡ Some 22
as_many_as_may_be = refl

one_more : counted 21 22 ≡ None
one_more = refl
