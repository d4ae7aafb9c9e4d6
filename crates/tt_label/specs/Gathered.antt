-- No part of the standard: the glyphs of a text that is broken into rows. They are made one after the other, as those
-- of one line, whatever rows they stand in.
use Rattle.std.specs.Prelude.{◌≡◌, ℕ, ℤ, pos, if◌then◌else◌, List, map, Result, Ok}
use Rattle.tt_core.specs.Outcomes.{◌>>=◌}
use Rattle.tt_face.specs.Faces.{Face}
use Rattle.tt_fit.specs.Fitting.{Fitter}
use Rattle.tt_label_rows.specs.Units.{all_glyphs, stepped_lines, text_units}
use Rattle.tt_line.specs.Layout.{Placement}
use Rattle.tt_advances.specs.Found.{advances_tested}
use Rattle.tt_advances.specs.Lines.{advance_step}
use Rattle.tt_picture.specs.Glyphs.{Glyph}
use Rattle.tt_picture.specs.Steps.{step_by}
use Rattle.tt_rows.specs.declared.unit.RowUnit.{RowUnit}
use Rattle.tt_strike.specs.Costs.{line_cost}
use Rattle.tt_strike.specs.Job.{Job}
use Rattle.tt_strike.specs.Made.{AreMade}
use Rattle.tt_strike.specs.Picture.{advance_with, line_shapes, outlines_tested, setting_in}
use Rattle.tt_strike.specs.Refusals.{Refused, as_font}
use Rattle.tt_strike.specs.Work.{lays_after_glyphs}

-- some glyphs as a line, each at pen 0
abbrev pub gathered : List ℕ → Placement
gathered gs = record { width = 1; height = 1; rise = pos 0; glyphs = map (λ g. (g, 0)) gs }

-- the glyphs of a text's units, line by line
abbrev pub units_glyphs : Face → Job → List ℕ
units_glyphs face a = all_glyphs (text_units face.cmap a.text)

-- the step of a glyph with its kerning: by its own advance, by its fitter, or by that of the face
abbrev pub unit_step : Face → Job → Fitter → ℕ → ℤ → ℕ
unit_step face a s =
    if lays_after_glyphs a.fit then step_by face.metrics a.ppem (advance_with s (units_glyphs face a))
    else advance_step face a.ppem

-- the units of a text's lines, with their steps
abbrev pub units_in : Face → Job → Fitter → List (List RowUnit)
units_in face a s = stepped_lines face.metrics (unit_step face a s) (text_units face.cmap a.text)

-- some glyphs are made before rows are laid out. Where work is bounded, their chords and crossings are tested later
abbrev pub glyphs_tested : Fitter → Job → List ℕ → Result (Unit {0}) Refused
glyphs_tested s a gs =
    if lays_after_glyphs a.fit then (outlines_tested s a.fit gs >>= λ outlines. Ok tt)
    else (line_shapes s a (gathered gs) >>= λ glyphs. Ok tt)

-- the advances of some glyphs are found, where rows are laid out by them
abbrev pub units_ready : Face → Job → List ℕ → Result (Unit {0}) Refused
units_ready face a gs = if lays_after_glyphs a.fit then Ok tt else as_font (advances_tested face gs)

-- the fitter that made the glyphs of a text, or the first refusal
abbrev pub units_made : Face → Job → Result Fitter Refused
units_made face a =
    units_ready face a (units_glyphs face a) >>= λ u.
    as_font (setting_in face a) >>= λ s.
    glyphs_tested s a (units_glyphs face a) >>= λ u.
    Ok s

-- some glyphs are drawn, by this fitter and at this cost
pub record AreReady (face : Face) (a : Job) (s : Fitter) (gs : List ℕ) (made : List Glyph) (n : ℕ) : Type 0 where
  pub drawn : AreMade face a (gathered gs) made
  pub setting : drawn.setting ≡ s
  pub cost : line_cost face a (gathered gs) ≡ Ok n
