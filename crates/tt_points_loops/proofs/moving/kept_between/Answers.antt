use Rattle.std.proofs.Common.{◌-ℤ◌, SFits, w64, rules, arith}
use Rattle.std.proofs.lemmas.Int.{ints, to_z-of_z}
use Rattle.tt_points_loops.proofs.moving.kept_between.Goals as goal

pub returns-clause-exact : goal.returns-clause-exact
returns-clause-exact c =
    let wanted : SFits w64 c.interpolated-wanted.result.0 = search rules in
    let now : SFits w64 c.current_distance-now.result.0 = search rules in
    let way : SFits w64 (c.interpolated-wanted.result.0 -ℤ c.current_distance-now.result.0) =
    omega (arith, ints, c.interpolated-wanted.ensures.bound, c.current_distance-now.ensures.few) in
    let moved = rw (
      c.interpolated-wanted.ensures.exact,
      c.current_distance-now.ensures.exact,
      c.of-motion.ensures,
    ) at (simp to_z-of_z at c.moved.ensures.exact) in
    rw c.in_ok-may_move.ensures moved
