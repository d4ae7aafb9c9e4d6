use Rattle.std.proofs.Common.{SFits, w32, refl, rules}
use Rattle.std.proofs.lemmas.Int.{to_z-of_z}
use Rattle.tt_points.specs.Measuring.{gc}
use Rattle.tt_points.proofs.measuring.gc.Goals as goal

pub returns-in-Original : goal.returns-in-Original
unfolding gc
returns-in-Original c =
    let p : SFits w32 c.args.p = c.ranges.p in
    let fits : SFits w32 c.org.result = search rules in
    let q = simp to_z-of_z at c.in_ok-q.ensures.exact in
    let at = rw c.of-motion.ensures at c.org.ensures.exact in
    rw (to_z-of_z w32 c.org.result fits, c.in-Original.is, q, at) refl
