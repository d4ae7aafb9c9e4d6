-- The defects that a label in a box can meet in a font.
use Rattle.std.specs.Prelude.{ℕ, ◌≤◌, List}
use Rattle.tt_box.specs.Boxes.{least_size}
use Rattle.tt_core.specs.Faults.{Fault}
use Rattle.tt_face.specs.Faces.{Face}
use Rattle.tt_fit.specs.declared.programs.Fit.{Fit}
use Rattle.tt_strike.specs.Defects.{IsLineDefect}
use Rattle.tt_strike.specs.Makers.{job_at}

-- a defect that stops some glyphs from being drawn at a size that is tried, down from the greatest
pub record IsTriedDefect (face : Face) (how : Fit) (greatest : ℕ) (glyphs : List ℕ) (fault : Fault) : Type 0 where
  pub ppem : ℕ
  pub low : least_size greatest ≤ ppem
  pub high : ppem ≤ greatest
  pub met : IsLineDefect face (job_at ppem how) glyphs fault
