use Rattle.std.proofs.Common.{SFits, w32, w64, refl, rules}
use Rattle.std.proofs.lemmas.Int.{to_z-of_z}
use Rattle.tt_points_loops.proofs.deltas.move_by.Goals as goal

pub returns-in_err-q-clause-exact : goal.returns-in_err-q-clause-exact
returns-in_err-q-clause-exact c =
    let d : SFits w32 c.args.d = c.ranges.d in
    let n : SFits w32 c.args.n = c.ranges.n in
    let wide : SFits w64 c.from.result = search rules in
    let p = simp to_z-of_z at c.in_ok-p.ensures.exact in
    let by = simp to_z-of_z at c.from.ensures in
    let moved = rw (by, c.of-motion.ensures) at (simp to_z-of_z at c.in_err-q.ensures.exact) in
    rw (p, c.in_ok-may_move.ensures, moved) (search rules)

pub returns-clause-exact : goal.returns-clause-exact
returns-clause-exact c =
    let d : SFits w32 c.args.d = c.ranges.d in
    let n : SFits w32 c.args.n = c.ranges.n in
    let wide : SFits w64 c.from.result = search rules in
    let p = simp to_z-of_z at c.in_ok-p.ensures.exact in
    let by = simp to_z-of_z at c.from.ensures in
    let moved = rw (by, c.of-motion.ensures) at (simp to_z-of_z at c.in_ok-q.ensures.exact) in
    let set = simp to_z-of_z at c.set.ensures.exact in
    rw (p, c.in_ok-may_move.ensures, moved, set) refl
