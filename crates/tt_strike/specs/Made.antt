-- No part of the standard: the glyphs of a line, made and tested before they are drawn or measured.
use Rattle.std.specs.Prelude.{◌≡◌, ℕ, ◌<◌, All, List, map, Result, Ok}
use Rattle.tt_core.specs.Outcomes.{◌>>=◌}
use Rattle.tt_fit.specs.Fitting.{Fitter}
use Rattle.tt_line.specs.Layout.{Placement, text_glyphs}
use Rattle.tt_metrics.specs.Metrics.{glyphs_of}
use Rattle.tt_picture.specs.Distinct.{distinct}
use Rattle.tt_picture.specs.Glyphs.{AreDrawn, Glyph, numbers_of}
use Rattle.tt_strike.specs.Costs.{line_cost}
use Rattle.tt_strike.specs.Job.{Job}
use Rattle.tt_strike.specs.Picture.{edges_tested, laid_out, line_shapes, points_tested, setting_in, shapes_in}
use Rattle.tt_picture.specs.Pixels.{Shape}
use Rattle.tt_strike.specs.Refusals.{Refused, as_font, as_job}
use Rattle.tt_face.specs.Faces.{Face}
use Rattle.tt_strike.specs.Work.{line_fitter}

-- the glyphs of the line, or its first refusal
abbrev pub shapes_made : Face → Job → Placement → Result (List Shape) Refused
shapes_made face a line = as_font (setting_in face a) >>= λ s. line_shapes s a line

-- the line's glyphs are made without a refusal: the fitter, the shapes, and these glyphs, each once
pub record AreMade (face : Face) (a : Job) (line : Placement) (gs : List Glyph) : Type 0 where
  pub setting : Fitter
  pub shapes : List Shape
  pub opened : setting_in face a ≡ Ok setting
  pub few : as_job (points_tested setting a line) ≡ Ok tt
  pub fitted : shapes_in setting line ≡ Ok shapes
  pub seldom : edges_tested setting a line shapes ≡ Ok tt
  pub drawn : AreDrawn (line_fitter setting (map (λ g. g.0) line.glyphs)) gs
  pub numbers : numbers_of gs ≡ distinct (map (λ g. g.0) line.glyphs)

-- the glyphs of a text's line, or the first refusal
abbrev pub text_shapes : Face → Job → Result (List Shape) Refused
text_shapes face a = laid_out face a >>= λ line. shapes_made face a line

-- a text is laid out, and the glyphs of its line, all of the font, are made: these, and at this cost
pub record IsMadeLine (face : Face) (a : Job) (line : Placement) (gs : List Glyph) (n : ℕ) : Type 0 where
  pub laid : laid_out face a ≡ Ok line
  pub glyphs : map (λ g. g.0) line.glyphs ≡ text_glyphs face.cmap a.text
  pub known : All (λ g. g.0 < glyphs_of face.metrics) line.glyphs
  pub made : AreMade face a line gs
  pub cost : line_cost face a line ≡ Ok n
