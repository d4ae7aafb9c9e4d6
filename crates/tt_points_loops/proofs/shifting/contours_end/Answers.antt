use Rattle.std.proofs.Common.{◌-◌, length}
use Rattle.tt_points_loops.proofs.Contours.{got_within}
use Rattle.tt_points_loops.proofs.shifting.contours_end.Goals as goal

pub returns-in-Some-clause-past : goal.returns-in-Some-clause-past
returns-in-Some-clause-past c = λ n are.
    got_within 0 c.args.contours.now n (length c.args.contours.now - 1) c.in-Some.contour.now are
    c.in-Some.ensures.value
