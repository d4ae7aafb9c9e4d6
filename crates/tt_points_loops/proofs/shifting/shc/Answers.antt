use Rattle.std.proofs.Common.{SFits, w32}
use Rattle.std.proofs.lemmas.Int.{to_z-of_z}
use Rattle.tt_points_loops.proofs.shifting.shc.Goals as goal

pub returns-clause-exact : goal.returns-clause-exact
returns-clause-exact c =
    let fits : SFits w32 c.args.contour = c.ranges.contour in
    let range = simp to_z-of_z at c.in_ok-range.ensures.exact in
    rw range (rw c.in_ok-range.ensures.zone at c.shift_range.ensures.exact)
