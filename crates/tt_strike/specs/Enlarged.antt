-- No part of the standard: a line enlarged so that no ink is cut, by the glyphs of the line, which are made once.
use Rattle.std.specs.Prelude.{◌≡◌, ℕ, ◌+◌, ◌<◌, All, List, map, Ok}
use Rattle.tt_line.specs.Layout.{Placement}
use Rattle.tt_metrics.specs.Metrics.{glyphs_of}
use Rattle.tt_picture.specs.Glyphs.{Glyph}
use Rattle.tt_strike.specs.Grown.{grown_line}
use Rattle.tt_strike.specs.Job.{Job}
use Rattle.tt_strike.specs.Made.{AreMade}
use Rattle.tt_face.specs.Faces.{Face}

-- these are the glyphs of the line, all of the font, and the line with added columns and rows has each glyph further to
-- the right
pub record IsEnlarged (face : Face) (a : Job) (line larger : Placement) (gs : List Glyph) : Type 0 where
  pub made : AreMade face a line gs
  pub known : All (λ g. g.0 < glyphs_of face.metrics) larger.glyphs
  pub left : ℕ
  pub moved : larger.glyphs ≡ map (λ g. (g.0, g.1 + left)) line.glyphs
  pub exact : grown_line face a line ≡ Ok larger
