use Rattle.std.proofs.Common.{SFits, w32, w64, rules, arith}
use Rattle.std.proofs.lemmas.Int.{ints, to_z-of_z}
use Rattle.tt_points.specs.ControlValues.{miap, set_at}
use Rattle.tt_points.proofs.control_values.miap.Goals as goal

pub returns-in_err-q-3-clause-exact : goal.returns-in_err-q-3-clause-exact
unfolding miap set_at
returns-in_err-q-3-clause-exact c =
    let p : SFits w32 c.args.p = c.ranges.p in
    let value : SFits w32 c.args.c = c.ranges.c in
    let far : SFits w64 c.miap_distance.result = search rules in
    let q = simp to_z-of_z at c.in_ok-q.ensures.exact in
    let by = simp to_z-of_z at c.given-c.ensures in
    let placed = rw (by, c.of-motion.ensures) at c.in_ok-q-2.ensures.exact in
    let near : SFits w32 c.cur.result = omega (arith, ints, c.cur.ensures.bound) in
    let wide : SFits w64 c.from.result = search rules in
    let from = simp to_z-of_z at c.from.ensures in
    let move = simp to_z-of_z at c.miap_distance.ensures.exact in
    let at = rw (from, c.cur.ensures.exact, c.of-motion.ensures, by) at move in
    let moved = rw (at, c.of-motion.ensures) at (simp to_z-of_z at c.in_err-q-3.ensures.exact) in
    rw (miap, q, c.in_ok-may_move.ensures, placed, set_at, moved) (search rules)

pub returns-clause-exact : goal.returns-clause-exact
unfolding miap set_at
returns-clause-exact c =
    let p : SFits w32 c.args.p = c.ranges.p in
    let value : SFits w32 c.args.c = c.ranges.c in
    let far : SFits w64 c.miap_distance.result = search rules in
    let q = simp to_z-of_z at c.in_ok-q.ensures.exact in
    let by = simp to_z-of_z at c.given-c.ensures in
    let placed = rw (by, c.of-motion.ensures) at c.in_ok-q-2.ensures.exact in
    let near : SFits w32 c.cur.result = omega (arith, ints, c.cur.ensures.bound) in
    let wide : SFits w64 c.from.result = search rules in
    let from = simp to_z-of_z at c.from.ensures in
    let move = simp to_z-of_z at c.miap_distance.ensures.exact in
    let at = rw (from, c.cur.ensures.exact, c.of-motion.ensures, by) at move in
    let moved = rw (at, c.of-motion.ensures) at (simp to_z-of_z at c.in_ok-q-3.ensures.exact) in
    rw (miap, q, c.in_ok-may_move.ensures, placed, set_at, moved) (search rules)
