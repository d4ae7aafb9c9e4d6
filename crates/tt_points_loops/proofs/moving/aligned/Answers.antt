use Rattle.std.proofs.Common.{pos, ◌-ℤ◌, SFits, w64, rules, arith}
use Rattle.std.proofs.lemmas.Int.{ints, to_z-of_z}
use Rattle.tt_points_loops.proofs.moving.aligned.Goals as goal

pub returns-clause-exact : goal.returns-clause-exact
returns-clause-exact c =
    let now : SFits w64 c.current_distance-now.result.0 = search rules in
    let back : SFits w64 (pos 0 -ℤ c.current_distance-now.result.0) = omega (arith, ints, c.current_distance-now.ensures.few) in
    let moved = rw (c.current_distance-now.ensures.exact, c.of-motion.ensures) at (simp to_z-of_z at c.moved.ensures.exact) in
    rw c.in_ok-may_move.ensures moved
