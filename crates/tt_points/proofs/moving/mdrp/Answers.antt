use Rattle.std.proofs.Common.{SFits, w32, w64, rules, arith}
use Rattle.std.proofs.lemmas.Int.{ints, to_z-of_z}
use Rattle.tt_points.specs.Moving.{mdrp}
use Rattle.tt_points.proofs.moving.mdrp.Goals as goal

pub returns-in_err-may_move-clause-exact : goal.returns-in_err-may_move-clause-exact
unfolding mdrp
returns-in_err-may_move-clause-exact c =
    let p : SFits w32 c.args.p = c.ranges.p in
    let rp0 : SFits w32 c.args.state.now.rp0 = search rules in
    let q = simp to_z-of_z at c.in_ok-q.ensures.exact in
    let r = simp to_z-of_z at c.in_ok-r.ensures.exact in
    rw (mdrp, q, r, c.in_err-may_move.ensures) (search rules)

pub returns-in_err-kept-clause-exact : goal.returns-in_err-kept-clause-exact
unfolding mdrp
returns-in_err-kept-clause-exact c =
    let p : SFits w32 c.args.p = c.ranges.p in
    let rp0 : SFits w32 c.args.state.now.rp0 = search rules in
    let q = simp to_z-of_z at c.in_ok-q.ensures.exact in
    let r = simp to_z-of_z at c.in_ok-r.ensures.exact in
    let far = rw (c.scale_between-scale.ensures.exact, c.of-motion.ensures) at c.distance_by.ensures.exact in
    let fits : SFits w64 c.distance_by.result.0 = omega (arith, ints, c.distance_by.ensures.few) in
    let d = rw far at (simp to_z-of_z at c.mdrp_distance-d.ensures.exact) in
    let kept = rw (d, c.of-motion.ensures) at c.in_err-kept.ensures.exact in
    rw (mdrp, q, r, c.in_ok-may_move.ensures, kept) (search rules)

pub returns-clause-exact : goal.returns-clause-exact
unfolding mdrp
returns-clause-exact c =
    let p : SFits w32 c.args.p = c.ranges.p in
    let rp0 : SFits w32 c.args.state.now.rp0 = search rules in
    let q = simp to_z-of_z at c.in_ok-q.ensures.exact in
    let r = simp to_z-of_z at c.in_ok-r.ensures.exact in
    let far = rw (c.scale_between-scale.ensures.exact, c.of-motion.ensures) at c.distance_by.ensures.exact in
    let fits : SFits w64 c.distance_by.result.0 = omega (arith, ints, c.distance_by.ensures.few) in
    let d = rw far at (simp to_z-of_z at c.mdrp_distance-d.ensures.exact) in
    let kept = rw (d, c.of-motion.ensures) at c.in_ok-kept.ensures.exact in
    rw (mdrp, q, r, c.in_ok-may_move.ensures, kept) (search rules)
