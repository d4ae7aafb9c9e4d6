-- No part of the standard: the facts of a line's picture besides its pixels.
use Rattle.std.specs.Prelude.{◌≡◌, Ok}
use Rattle.tt_line.specs.Layout.{Placement}
use Rattle.tt_picture.specs.Pictures.{IsReady, Picture}
use Rattle.tt_picture.specs.Unfitted.{ListsOnce}
use Rattle.tt_strike.specs.Costs.{line_cost}
use Rattle.tt_strike.specs.Job.{Job}
use Rattle.tt_strike.specs.Report.{line_report}
use Rattle.tt_face.specs.Faces.{Face}

-- no row is made yet, and the report and the cost are those of the line
pub record IsReported (face : Face) (a : Job) (line : Placement) (p : Picture) : Type 0 where
  pub ready : IsReady p
  pub report : line_report face a line ≡ Ok p.unfitted
  pub once : ListsOnce p.unfitted
  pub cost : line_cost face a line ≡ Ok p.cost
