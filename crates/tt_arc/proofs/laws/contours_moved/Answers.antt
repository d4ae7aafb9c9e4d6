use Rattle.tt_arc.proofs.Moves.{contours_there, contours_above}
use Rattle.tt_arc.proofs.laws.contours_moved.Goals as goal

pub returns-clause-right : goal.returns-clause-right
returns-clause-right c = contours_there

pub returns-clause-up : goal.returns-clause-up
returns-clause-up c = contours_above
