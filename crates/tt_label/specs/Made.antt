-- No part of the standard: the lines of a label and their glyphs, made and tested before they are drawn.
use Rattle.std.specs.Prelude.{◌≡◌, ◌<◌, ◌≤◌, ℕ, All, List, length, Result, Ok}
use Rattle.tt_core.specs.Limits.{margin_limit, text_limit}
use Rattle.tt_core.specs.Outcomes.{◌>>=◌}
use Rattle.tt_face.specs.Faces.{Face}
use Rattle.tt_line.specs.declared.align.Align.{Align}
use Rattle.tt_line.specs.Layout.{Placement}
use Rattle.tt_metrics.specs.Metrics.{glyphs_of}
use Rattle.tt_picture.specs.Glyphs.{Glyph}
use Rattle.tt_picture.specs.Pixels.{Shape}
use Rattle.tt_strike.specs.declared.laid.Laid.{Laid}
use Rattle.tt_strike.specs.Costs.{line_cost}
use Rattle.tt_strike.specs.Job.{Job}
use Rattle.tt_strike.specs.Made.{AreMade, shapes_made}
use Rattle.tt_strike.specs.Refusals.{Refused}
use Rattle.tt_label.specs.Label.{joint, label_placed}
use Rattle.tt_label.specs.Views.{placements_of}

-- the glyphs of all lines of a label, or the first refusal
abbrev pub label_shapes : Face → Job → Align → Result (List Shape) Refused
label_shapes face a how = label_placed face a how >>= λ lines. shapes_made face a (joint lines)

-- the lines have one width and one height
abbrev pub AreAlike : List Placement → Type 0
AreAlike lines = All (λ l. (l.width ≡ (joint lines).width) × (l.height ≡ (joint lines).height)) lines

-- at least one line, all of one size and with one margin; together they have no more glyphs than a text, each one of the
-- font
pub record AreLaid (face : Face) (margin : ℕ) (lines : List Laid) : Type 0 where
  pub some : 1 ≤ length lines
  pub within : margin ≤ margin_limit
  pub margins : All (λ l. l.margin ≡ margin) lines
  pub alike : AreAlike (placements_of lines)
  pub few : length (joint (placements_of lines)).glyphs ≤ text_limit
  pub known : All (λ g. g.0 < glyphs_of face.metrics) (joint (placements_of lines)).glyphs

-- the lines of a text are laid out, and their glyphs are made as those of one line, at this cost
pub record IsMadeLabel (face : Face) (a : Job) (how : Align) (lines : List Laid) (gs : List Glyph) (n : ℕ) : Type 0 where
  pub placed : label_placed face a how ≡ Ok (placements_of lines)
  pub laid : AreLaid face a.margin lines
  pub made : AreMade face a (joint (placements_of lines)) gs
  pub cost : line_cost face a (joint (placements_of lines)) ≡ Ok n
