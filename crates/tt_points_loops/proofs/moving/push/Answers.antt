use Rattle.std.proofs.Common.{SFits, w32, w64, refl, rules, arith}
use Rattle.std.proofs.lemmas.Int.{ints, to_z-of_z}
use Rattle.tt_points_loops.proofs.moving.push.Goals as goal

pub returns-in_err-q-clause-exact : goal.returns-in_err-q-clause-exact
returns-in_err-q-clause-exact c =
    let n : SFits w32 c.args.n = c.ranges.n in
    let by : SFits w64 c.args.by.0 = omega (arith, ints, c.requires.small) in
    let p = simp to_z-of_z at c.in_ok-p.ensures.exact in
    let moved = rw c.of.ensures at (simp to_z-of_z at c.in_err-q.ensures.exact) in
    rw (p, moved) (search rules)

pub returns-clause-exact : goal.returns-clause-exact
returns-clause-exact c =
    let n : SFits w32 c.args.n = c.ranges.n in
    let by : SFits w64 c.args.by.0 = omega (arith, ints, c.requires.small) in
    let p = simp to_z-of_z at c.in_ok-p.ensures.exact in
    let moved = rw c.of.ensures at (simp to_z-of_z at c.in_ok-q.ensures.exact) in
    let set = simp to_z-of_z at c.set.ensures.exact in
    rw (p, moved, set) refl
