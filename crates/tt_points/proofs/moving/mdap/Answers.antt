use Rattle.std.proofs.Common.{SFits, w32, w64, refl, rules, arith}
use Rattle.std.proofs.lemmas.Int.{ints, to_z-of_z}
use Rattle.std.proofs.lemmas.Result.{err_from_is_err_and}
use Rattle.tt_points.specs.Moving.{mdap}
use Rattle.tt_points.proofs.moving.mdap.Goals as goal

pub returns-in_err-q-2-clause-kept : goal.returns-in_err-q-2-clause-kept
returns-in_err-q-2-clause-kept c =
    let e = err_from_is_err_and c.from_residual-in_err-q-2.result c.from_residual-in_err-q-2.ensures.1 in
    rw e.1 (refl, refl)

pub returns-in_err-q-2-clause-exact : goal.returns-in_err-q-2-clause-exact
unfolding mdap
returns-in_err-q-2-clause-exact c =
    let p : SFits w32 c.args.p = c.ranges.p in
    let near : SFits w32 c.cur.result = omega (arith, ints, c.cur.ensures.bound) in
    let wide : SFits w64 c.from.result = search rules in
    let far : SFits w64 c.mdap_distance.result = search rules in
    let q = simp to_z-of_z at c.in_ok-q.ensures.exact in
    let from = simp to_z-of_z at c.from.ensures in
    let move = simp to_z-of_z at c.mdap_distance.ensures.exact in
    let at = rw (from, c.cur.ensures.exact, c.of-motion.ensures) at move in
    let moved = rw (at, c.of-motion.ensures) at (simp to_z-of_z at c.in_err-q-2.ensures.exact) in
    rw (mdap, q, c.in_ok-may_move.ensures, moved) (search rules)

pub returns-clause-exact : goal.returns-clause-exact
unfolding mdap
returns-clause-exact c =
    let p : SFits w32 c.args.p = c.ranges.p in
    let near : SFits w32 c.cur.result = omega (arith, ints, c.cur.ensures.bound) in
    let wide : SFits w64 c.from.result = search rules in
    let far : SFits w64 c.mdap_distance.result = search rules in
    let q = simp to_z-of_z at c.in_ok-q.ensures.exact in
    let from = simp to_z-of_z at c.from.ensures in
    let move = simp to_z-of_z at c.mdap_distance.ensures.exact in
    let at = rw (from, c.cur.ensures.exact, c.of-motion.ensures) at move in
    let moved = rw (at, c.of-motion.ensures) at (simp to_z-of_z at c.in_ok-q-2.ensures.exact) in
    rw (mdap, q, c.in_ok-may_move.ensures, moved) (search rules)
