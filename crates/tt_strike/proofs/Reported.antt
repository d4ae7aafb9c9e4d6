-- The facts of a text's picture, from those of its line.
use Rattle.std.proofs.Common.{◌≡◌, Ok}
use Rattle.std.specs.Prelude.{IsOkAnd}
use Rattle.tt_face.specs.Faces.{Face}
use Rattle.tt_line.specs.Layout.{Placement}
use Rattle.tt_picture.specs.Pictures.{IsReady, Picture}
use Rattle.tt_picture.specs.Unfitted.{ListsOnce}
use Rattle.tt_picture.proofs.Places.{ok_and}
use Rattle.tt_strike.specs.Costs.{cost_by}
use Rattle.tt_strike.specs.Job.{Job}
use Rattle.tt_strike.specs.Picture.{laid_out, text_placed}
use Rattle.tt_strike.specs.Report.{report_by}
use Rattle.tt_strike.specs.Reported.{IsReported}
use Rattle.tt_strike.proofs.Placed.{placed_of}

-- a fact of a laid-out line is one of the placed text
pub placed_and : (face : Face) (a : Job) (P : Placement → Type 0) → IsOkAnd (laid_out face a) P → IsOkAnd (text_placed face a) P
placed_and face a P holds =
    let its = ok_and (laid_out face a) P holds in
    rw (placed_of face a its.0 its.1) its.2

pub record IsReportedText (face : Face) (a : Job) (p : Picture) : Type 0 where
  pub ready : IsReady p
  pub report : report_by face a ≡ Ok p.unfitted
  pub once : ListsOnce p.unfitted
  pub cost : cost_by face a ≡ Ok p.cost

pub reported_text : (face : Face) (a : Job) (p : Picture) → IsOkAnd (laid_out face a) (λ l. IsReported face a l p)
    → IsReportedText face a p
unfolding report_by cost_by
reported_text face a p holds =
    let its = ok_and (laid_out face a) (λ l. IsReported face a l p) holds in
    let is = its.2 in
    let placed = placed_of face a its.0 its.1 in
    record { ready = is.ready; report = rw placed is.report; once = is.once; cost = rw placed is.cost }
