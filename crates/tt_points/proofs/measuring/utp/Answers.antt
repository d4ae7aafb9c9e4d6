use Rattle.std.proofs.Common.{SFits, w32, refl}
use Rattle.std.proofs.lemmas.Int.{to_z-of_z}
use Rattle.tt_points.specs.Measuring.{utp}
use Rattle.tt_points.proofs.measuring.utp.Goals as goal

pub returns-clause-exact : goal.returns-clause-exact
unfolding utp
returns-clause-exact c =
    let p : SFits w32 c.args.p = c.ranges.p in
    let q = simp to_z-of_z at c.in_ok-q.ensures.exact in
    let untouched = rw c.of.ensures at c.marked.ensures.exact in
    let zones = simp to_z-of_z at c.set.ensures.exact in
    rw (q, zones, untouched) refl
