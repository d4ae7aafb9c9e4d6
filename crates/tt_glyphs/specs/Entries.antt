-- No part of the standard: the report of each glyph of a list (profile). The glyphs are made as those of a line are: in
-- the order of the list, each number where it stands first, with one fitter and one bound of work. A glyph with a defect
-- has its fault in the report, and the others are made.
use Rattle.std.specs.Prelude.{◌≡◌, refl, ℕ, ◌+◌, ⊤, ◌==◌, nat_lt, if◌then◌else◌, List, [], ◌∷◌, flat_map, map, ℤ, pos, codes, Option, None, Result, Ok, Err}
use Rattle.std.specs.List.{filter, sum_by}
use Rattle.tt_core.specs.declared.fault.Why.TheVariants as why
use Rattle.tt_core.specs.Faults.{Fault, fault_at}
use Rattle.tt_fit.specs.declared.programs.Fit.{Fit}
use Rattle.tt_fit.specs.Fitting.{Fitter, fitted_outline, unfitted_fault}
use Rattle.tt_fit.specs.outline.Outline.{Outline}
use Rattle.tt_advances.specs.Found.{glyph_units, or_zero, units_of}
use Rattle.tt_face.specs.Faces.{Face}
use Rattle.tt_line.specs.Layout.{units_in_pixels}
use Rattle.tt_metrics.specs.Metrics.{glyphs_of}
use Rattle.tt_picture.specs.Distinct.{distinct}
use Rattle.tt_picture.specs.Ink.{glyph_ink}
use Rattle.tt_picture.specs.Shapes.{shape_at}
use Rattle.tt_picture.specs.Steps.{glyph_advance, glyph_step}
use Rattle.tt_strike.specs.Work.{lays_after_glyphs, line_fitter}
use Rattle.tt_glyphs.specs.Bitmaps.{PlaceFits, bitmap, is_large, place_bytes, place_of}
use Rattle.tt_glyphs.specs.declared.place.InkPlace.{InkPlace}
use Rattle.tt_glyphs.specs.declared.told.GlyphEntry.{GlyphEntry}
use Rattle.tt_glyphs.specs.declared.told.Told.{Told}
use Rattle.tt_glyphs.specs.declared.told.Told.TheVariants as told

-- the report of a glyph by its advance in pixels, the distance of its advance's two ends in 26.6 pixels, its fault and
-- its place
abbrev pub made_within : ℕ → ℤ → Option Fault → InkPlace → Told
made_within advance left unfitted p = if is_large p then told.Large
    else told.Made (record { advance = advance; advance_left = left; place = p; unfitted = unfitted })

abbrev pub told_of : Result Outline Fault → Told → Told
told_of (Ok o) t = t
told_of (Err fault) t = told.Broken fault

-- the advance of a glyph in font units, by its fitter's tables and instance
abbrev pub fitter_units : Fitter → ℕ → ℕ
fitter_units s g = or_zero (glyph_units s.instance s.metrics s.tables g)

-- the advance that a fit gives
abbrev pub advance_by : Fit → Fitter → ℕ → ℕ
advance_by how s g = if lays_after_glyphs how then glyph_step s g else units_in_pixels s.metrics s.ppem (fitter_units s g)

-- the same by the step of the glyph's outline
abbrev pub advance_of : Face → ℕ → Fit → ℕ → ℕ → ℕ
advance_of face ppem how g step =
    if lays_after_glyphs how then step else units_in_pixels face.metrics ppem (units_of face g)

-- a glyph of the font, by its fitter
unfoldable pub glyph_told : Fit → Fitter → ℕ → Told
glyph_told how s g =
    told_of (fitted_outline s g)
    (made_within (advance_by how s g) (glyph_advance s g) (unfitted_fault s g) (place_of (glyph_ink s g)))

-- the numbers of a list that are glyphs of the font
abbrev pub known : Fitter → List ℕ → List ℕ
known s gs = filter (λ g. nat_lt g (glyphs_of s.metrics)) gs

-- the report of a number of a list
abbrev pub number_told : Fit → Fitter → List ℕ → ℕ → Told
number_told how s gs g =
    if nat_lt g (glyphs_of s.metrics) then glyph_told how (line_fitter s (known s gs) g) g else told.Unknown

abbrev pub told_bytes : Told → ℕ
told_bytes told.Unknown = 0
told_bytes (told.Broken fault) = 0
told_bytes told.Large = 0
told_bytes (told.Made m) = place_bytes m.place

-- a bitmap that is made stands near the pen and the base line, and is not too large
abbrev pub ToldFits : Told → Type 0
ToldFits told.Unknown = ⊤
ToldFits (told.Broken fault) = ⊤
ToldFits told.Large = ⊤
ToldFits (told.Made m) = PlaceFits m.place

-- the bytes of the rows of the numbers that stand before a number in a list
abbrev pub bytes_before : (ℕ → ℕ) → List ℕ → ℕ → ℕ
bytes_before bytes [] g = 0
bytes_before bytes (h ∷ hs) g = if h == g then 0 else bytes h + bytes_before bytes hs g

abbrev pub number_bytes : Fit → Fitter → List ℕ → ℕ → ℕ
number_bytes how s gs g = told_bytes (number_told how s gs g)

abbrev pub entry_of : Fit → Fitter → List ℕ → ℕ → GlyphEntry
entry_of how s gs g = record {
  glyph = g;
  told = number_told how s gs g;
  at = bytes_before (number_bytes how s gs) (distinct gs) g;
}

-- an entry for each place of a list
abbrev pub entries : Fit → Fitter → List ℕ → List GlyphEntry
entries how s gs = map (entry_of how s gs) gs

-- the bytes of all rows; a number that repeats has none of its own
abbrev pub bytes_wanted : Fit → Fitter → List ℕ → ℕ
bytes_wanted how s gs = sum_by (number_bytes how s gs) (distinct gs)

-- the rows of a glyph by its fitter
abbrev pub outline_rows : Fitter → ℕ → InkPlace → Result Outline Fault → List ℕ
outline_rows s g p (Ok o) = bitmap (shape_at s (g, 0) o) p
outline_rows s g p (Err fault) = []

abbrev pub told_rows : Fitter → ℕ → Told → List ℕ
told_rows s g told.Unknown = []
told_rows s g (told.Broken fault) = []
told_rows s g told.Large = []
told_rows s g (told.Made m) = outline_rows s g m.place (fitted_outline s g)

abbrev pub number_rows : Fit → Fitter → List ℕ → ℕ → List ℕ
number_rows how s gs g = told_rows (line_fitter s (known s gs) g) g (number_told how s gs g)

-- the rows of all numbers, each where it stands first
abbrev pub all_rows : Fit → Fitter → List ℕ → List ℕ
all_rows how s gs = flat_map (number_rows how s gs) (distinct gs)

-- worked values: places among the distinct numbers of a list
abbrev two_for_the_first : ℕ → ℕ
two_for_the_first g = if g == 1 then 2 else 0

a_repeated_number : map (bytes_before two_for_the_first (distinct (1 ∷ 1 ∷ 2 ∷ 0 ∷ []))) (1 ∷ 1 ∷ 2 ∷ 0 ∷ [])
    ≡ 0 ∷ 0 ∷ 2 ∷ 2 ∷ []
a_repeated_number = refl

a_fault_has_no_bytes : told_bytes (told.Broken (fault_at (codes "glyf") 10 why.ComponentDepth)) ≡ 0
a_fault_has_no_bytes = refl

too_wide : made_within 75 (pos 4800) None (record { left = pos 0; top = pos 0; width = 16385; height = 1 }) ≡ told.Large
too_wide = refl

as_wide_as_may_be : made_within 75 (pos 4799) None (record { left = pos 0; top = pos 0; width = 16384; height = 4096 })
    ≡ told.Made (record {
      advance = 75;
      advance_left = pos 4799;
      place = record { left = pos 0; top = pos 0; width = 16384; height = 4096 };
      unfitted = None;
    })
as_wide_as_may_be = refl
