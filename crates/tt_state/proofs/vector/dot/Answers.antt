use Rattle.std.proofs.Common.{◌≡◌, ◌≤◌, nat_lt, true, false, unsigned_abs, SFits, w32, w64, refl, rules, arith}
use Rattle.std.proofs.lemmas.Bool.Decides.{nat_tests}
use Rattle.std.proofs.lemmas.Int.{ints, to_z-of_z}
use Rattle.tt_state.proofs.vector.dot.Goals as goal

pub returns-then-unsigned_abs-lt1024-clause-exact : goal.returns-then-unsigned_abs-lt1024-clause-exact
returns-then-unsigned_abs-lt1024-clause-exact c =
    let x : SFits w32 c.x.result = search rules in
    let y : SFits w32 c.y.result = search rules in
    let fits : SFits w64 c.project-whole.result = search rules in
    let whole = rw (c.x.ensures.exact, c.y.ensures.exact) at (simp to_z-of_z at c.project-whole.ensures.exact) in
    let measured = simp to_z-of_z at c.unsigned_abs.ensures.value in
    let near = rw measured at c.if-unsigned_abs-lt1024.true in
    let small : nat_lt (unsigned_abs c.project-whole.result) 1024 ≡ true = grind (arith, nat_tests) in
    rw (← whole, small) refl

pub returns-else-unsigned_abs-lt1024-clause-exact : goal.returns-else-unsigned_abs-lt1024-clause-exact
returns-else-unsigned_abs-lt1024-clause-exact c =
    let x : SFits w32 c.x.result = search rules in
    let y : SFits w32 c.y.result = search rules in
    let fits : SFits w64 c.project-whole.result = search rules in
    let few : SFits w32 c.project-whole.result = omega (arith, ints, c.project-whole.ensures.bound, c.x.ensures.bound, c.y.ensures.bound) in
    let whole = rw (c.x.ensures.exact, c.y.ensures.exact) at (simp to_z-of_z at c.project-whole.ensures.exact) in
    let measured = simp to_z-of_z at c.unsigned_abs.ensures.value in
    let far : 1024 ≤ unsigned_abs c.project-whole.result = rw measured at c.if-unsigned_abs-lt1024.false in
    let large : nat_lt (unsigned_abs c.project-whole.result) 1024 ≡ false = grind (arith, nat_tests) in
    simp to_z-of_z (rw (← whole, large) refl)

pub returns-else-unsigned_abs-lt1024-clause-low : goal.returns-else-unsigned_abs-lt1024-clause-low
returns-else-unsigned_abs-lt1024-clause-low c =
    let fits : SFits w64 c.project-whole.result = search rules in
    let few : SFits w32 c.project-whole.result = omega (arith, ints, c.project-whole.ensures.bound, c.x.ensures.bound, c.y.ensures.bound) in
    let measured = simp to_z-of_z at c.unsigned_abs.ensures.value in
    let far : 1024 ≤ unsigned_abs c.project-whole.result = rw measured at c.if-unsigned_abs-lt1024.false in
    simp to_z-of_z far
