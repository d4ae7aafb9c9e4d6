-- No part of the standard: outlines of glyphs before their edges are made: their steps and their chords (profile).
use Rattle.std.specs.Prelude.{◌≡◌, refl, ℕ, ℤ, pos, negsuc, ◌+ℤ◌, List, [], ◌∷◌, map, None, Result, Ok, Err}
use Rattle.tt_core.specs.Faults.{Fault}
use Rattle.tt_core.specs.Outcomes.{each}
use Rattle.tt_fit.specs.Fitting.{Fitter, fitted_outline}
use Rattle.tt_fit.specs.outline.Outline.{Outline}
use Rattle.tt_fit.specs.outline.Steps.{advance_left, pixels_of}
use Rattle.tt_core.specs.Scales.{rounded_scale, scaled_by}
use Rattle.tt_metrics.specs.declared.head.LocaFormat.TheVariants.{Short}
use Rattle.tt_metrics.specs.declared.heights.Heights.TheVariants.{Exact}
use Rattle.tt_metrics.specs.Metrics.{Metrics, units_per_em_of}
use Rattle.tt_arc.specs.Chords.{chords_counted}
use Rattle.tt_arc.specs.declared.rule.ChordRule.{ChordRule}
use Rattle.tt_picture.specs.Shapes.{chords_with, offset_at}

-- the outlines of some glyphs, made in order, by the fitter of each
abbrev pub outlines_by : (ℕ → Fitter) → List ℕ → Result (List Outline) Fault
outlines_by maker gs = each (λ g. fitted_outline (maker g) g) gs

-- the distance of the ends of an outline's advance, where there is an outline
abbrev pub outline_advance : Result Outline Fault → ℤ
outline_advance (Ok o) = advance_left o
outline_advance (Err fault) = pos 0

-- the same of a glyph, by its fitter, in 26.6 pixels
unfoldable pub glyph_advance : Fitter → ℕ → ℤ
glyph_advance s g = outline_advance (fitted_outline s g)

-- the step of a glyph by its fitter, without kerning
abbrev pub glyph_step : Fitter → ℕ → ℕ
glyph_step s g = pixels_of (glyph_advance s g)

-- the step of a glyph with so much kerning in font units: kerning is scaled as points are, and the sum is rounded once
abbrev pub kerned_step : Metrics → ℕ → ℤ → ℤ → ℕ
kerned_step m ppem advance kerning = pixels_of (advance +ℤ scaled_by (rounded_scale ppem (units_per_em_of m)) kerning)

-- the same by the advance of each glyph
abbrev pub step_by : Metrics → ℕ → (ℕ → ℤ) → ℕ → ℤ → ℕ
step_by m ppem advance g kerning = kerned_step m ppem (advance g) kerning

-- worked values at 16 pixels per em, where 1,024 units are an em: a unit is 1/64 pixel
its_metrics : ℕ → Metrics
its_metrics em = record {
  head = record { units_per_em = em; loca_format = Short };
  maxp = record { glyphs = 3; twilight = 0; storage = 0 };
  hhea = record { ascent = pos 256; descent = pos 0; line_gap = pos 0; long_metrics = 1 };
  hmtx = 1 ∷ 0 ∷ 0 ∷ 0 ∷ [];
  heights = Exact;
  kerning = None;
  advances = None;
}

-- Programs leave 5 pixels. Half a pixel less goes up; then a little more; then all, half a pixel more, and a pixel more
by_kerning : map (kerned_step (its_metrics 1024) 16 (pos 320)) (pos 0 ∷ negsuc 31 ∷ negsuc 32 ∷ negsuc 319 ∷ negsuc 351 ∷ negsuc 383 ∷ [])
    ≡ 5 ∷ 5 ∷ 4 ∷ 0 ∷ 0 ∷ 0 ∷ []
unfolding its_metrics
by_kerning = refl

-- programs leave 4 pixels and a half: 4 with half a pixel less, and 5 with half a pixel more
two_halves : map (kerned_step (its_metrics 1024) 16 (pos 288)) (negsuc 31 ∷ pos 0 ∷ pos 31 ∷ pos 32 ∷ [])
    ≡ 4 ∷ 5 ∷ 5 ∷ 5 ∷ []
unfolding its_metrics
two_halves = refl

-- where 2,048 units are an em, a kerning of -1 is -1/128 pixel, which is scaled to -1/64
half_a_64th : map (kerned_step (its_metrics 2048) 16 (pos 288)) (negsuc 0 ∷ pos 0 ∷ []) ≡ 4 ∷ 5 ∷ []
unfolding its_metrics
half_a_64th = refl

-- the chords and straight edges of an outline, before any are joined
abbrev pub chords_of : ChordRule → Outline → ℕ
chords_of r o = chords_counted r o.points o.ends (offset_at 0 o) (pos 0)

abbrev pub outline_chords : ChordRule → Result Outline Fault → ℕ
outline_chords r (Ok o) = chords_of r o
outline_chords r (Err fault) = 0

-- the chords of a glyph by its fitter
unfoldable pub glyph_chords : Fitter → ℕ → ℕ
glyph_chords s g = outline_chords (chords_with s) (fitted_outline s g)
