use Rattle.std.proofs.Common.{SFits, w32, w64, rules}
use Rattle.std.proofs.lemmas.Int.{to_z-of_z}
use Rattle.tt_points.specs.Measuring.{scfs}
use Rattle.tt_points.proofs.measuring.scfs.Goals as goal

pub returns-in_err-q-2-clause-exact : goal.returns-in_err-q-2-clause-exact
unfolding scfs
returns-in_err-q-2-clause-exact c =
    let p : SFits w32 c.args.p = c.ranges.p in
    let v : SFits w32 c.args.v = c.ranges.v in
    let q = simp to_z-of_z at c.in_ok-q.ensures.exact in
    let far : SFits w64 c.short_of.result = search rules in
    let short = simp to_z-of_z at c.short_of.ensures.exact in
    let moved = rw (short, c.of-motion.ensures) at (simp to_z-of_z at c.in_err-q-2.ensures.exact) in
    rw (scfs, q, c.in_ok-may_move.ensures, moved) (search rules)

pub returns-clause-exact : goal.returns-clause-exact
unfolding scfs
returns-clause-exact c =
    let p : SFits w32 c.args.p = c.ranges.p in
    let v : SFits w32 c.args.v = c.ranges.v in
    let q = simp to_z-of_z at c.in_ok-q.ensures.exact in
    let far : SFits w64 c.short_of.result = search rules in
    let short = simp to_z-of_z at c.short_of.ensures.exact in
    let moved = rw (short, c.of-motion.ensures) at (simp to_z-of_z at c.in_ok-q-2.ensures.exact) in
    rw (scfs, q, c.in_ok-may_move.ensures, moved) (search rules)
