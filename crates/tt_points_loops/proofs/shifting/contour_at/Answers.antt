use Rattle.tt_points_loops.proofs.Contours.{ended_within}
use Rattle.tt_points_loops.proofs.shifting.contour_at.Goals as goal

pub returns-clause-past : goal.returns-clause-past
returns-clause-past c = λ n are. ended_within 0 c.args.contours.now n _ (0, 0) are c.if-c-contours.false
