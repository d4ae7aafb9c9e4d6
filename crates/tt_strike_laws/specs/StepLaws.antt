-- Laws of steps. With best a character's step is that of its glyph, and the measure of a text tells it. With any other
-- fit a line is laid out by advances.
use Rattle.std.specs.Prelude.{◌≡◌, ◌≢◌, refl, ℕ, ◌+◌, ◌<◌, true, false, ℤ, pos, ◌+ℤ◌, [], ◌∷◌, length, map, get_or, None, Ok, Err}
use Rattle.tt_core.specs.Faults.{Fault}
use Rattle.tt_face.specs.Faces.{Face, finds_advances}
use Rattle.tt_fit.specs.declared.programs.Fit.TheVariants as fit
use Rattle.tt_fit.specs.Fitting.{Fitter}
use Rattle.tt_fit.specs.outline.Outline.{Outline}
use Rattle.tt_line.specs.Layout.{placement, text_glyphs}
use Rattle.tt_fit.specs.outline.Steps.{step_of}
use Rattle.tt_arc.specs.declared.rule.ChordRule.{ChordRule}
use Rattle.tt_picture.specs.Shapes.{contours_of, edges_at, extents_of}
use Rattle.tt_strike.specs.Job.{Job}
use Rattle.tt_strike.specs.Measures.{Measure, measured}
use Rattle.tt_strike.specs.Picture.{outlines_in, placed_by_steps, placed_by_units, setting_in, text_placed}
use Rattle.tt_strike.specs.Refusals.{as_job, font}
use Rattle.tt_strike.specs.Work.{asked_tested}
use Rattle.tt_strike.specs.declared.measuring.CharacterMeasure.{CharacterMeasure}

-- a character of a measure by its number
abbrev pub character_in : Measure → ℕ → CharacterMeasure
character_in m i = get_or m.characters i (record { glyph = 0; pen = pos 0; advance = 0; ink = None })

-- where pairs are not kerned, equal glyphs of a text have equal steps
abbrev pub EqualGlyphsStepAlike : Type 0
EqualGlyphsStepAlike = (face : Face) (a : Job) (m : Measure) (i j : ℕ) → face.metrics.kerning ≡ None → measured face a ≡ Ok m
    → i < length m.characters → j < length m.characters → (character_in m i).glyph ≡ (character_in m j).glyph
    → (character_in m i).advance ≡ (character_in m j).advance

-- a measure tells the steps by which the text was laid out: each leads from a pen to the next
abbrev pub MeasureTellsSteps : Type 0
MeasureTellsSteps = (face : Face) (a : Job) (m : Measure) (i : ℕ) → measured face a ≡ Ok m → i + 1 < length m.characters
    → (character_in m (i + 1)).pen ≡ (character_in m i).pen +ℤ pos (character_in m i).advance

-- with any fit but best a text is laid out by advances: at an instance without HVAR by those that are found
abbrev pub OthersLayByUnits : Type 0
OthersLayByUnits = (face : Face) (a : Job) → a.fit ≢ fit.Best → text_placed face a ≡ placed_by_units face a

-- and elsewhere by those of the tables; so at the font's default
abbrev pub OthersLayByAdvances : Type 0
OthersLayByAdvances = (face : Face) (a : Job) → a.fit ≢ fit.Best → finds_advances face ≡ false
    → text_placed face a ≡ as_job (placement face.metrics face.cmap a.text a.ppem a.margin)

abbrev pub DefaultsLayByAdvances : Type 0
DefaultsLayByAdvances = (face : Face) (a : Job) → a.fit ≢ fit.Best → face.instance ≡ None
    → text_placed face a ≡ as_job (placement face.metrics face.cmap a.text a.ppem a.margin)

-- with best it is laid out by steps, and the fault of a glyph is told whatever the extent of the picture would be
abbrev pub BestLaysBySteps : Type 0
BestLaysBySteps = (face : Face) (a : Job) → a.fit ≡ fit.Best → text_placed face a ≡ placed_by_steps face a

abbrev pub GlyphsBeforeExtent : Type 0
GlyphsBeforeExtent = (face : Face) (a : Job) (s : Fitter) (f : Fault) → a.fit ≡ fit.Best → setting_in face a ≡ Ok s
    → asked_tested a.fit s (text_glyphs face.cmap a.text) ≡ Ok tt
    → outlines_in s (text_glyphs face.cmap a.text) ≡ Err f → text_placed face a ≡ Err (font f)

-- an outline moved right, with the ends of its advance
abbrev pub moved_right : ℤ → Outline → Outline
moved_right v o = record o {
  points = map (λ p. (p.0 +ℤ v, p.1, p.2)) o.points;
  phantom = record (o.phantom) {
    left = (o.phantom.left.0 +ℤ v, o.phantom.left.1);
    right = (o.phantom.right.0 +ℤ v, o.phantom.right.1);
  };
}

-- it has the same step, and at each pen the same edges
pub record AreAlike (o p : Outline) : Type 0 where
  pub step : step_of o ≡ step_of p
  pub edges : (r : ChordRule) (pen : ℕ) → edges_at r pen o ≡ edges_at r pen p
  pub contours : (r : ChordRule) (pen : ℕ) → contours_of r pen o ≡ contours_of r pen p
  pub extents : extents_of o ≡ extents_of p

abbrev pub MovedOutlinesAgree : Type 0
MovedOutlinesAgree = (o : Outline) (v : ℤ) → AreAlike (moved_right v o) o

-- a worked value: a triangle whose program moved it with both ends of its advance by two pixels and a half
triangle : Outline
triangle = record {
  points = (pos 0, pos 0, true) ∷ (pos 64, pos 128, true) ∷ (pos 128, pos 0, true) ∷ [];
  ends = 3 ∷ [];
  phantom = record { left = (pos 0, pos 0); right = (pos 159, pos 0); ascent = (pos 0, pos 256); descent = (pos 0, pos 0) };
  scan = None;
}

its_step : step_of triangle ≡ 2
unfolding triangle
its_step = refl

its_step_moved : step_of (moved_right (pos 160) triangle) ≡ 2
unfolding triangle
its_step_moved = refl
