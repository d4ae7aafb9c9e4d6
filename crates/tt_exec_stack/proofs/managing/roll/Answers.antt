use Rattle.std.proofs.Common.{SFits, w32, refl, rules}
use Rattle.std.proofs.lemmas.Int.{to_z-of_z}
use Rattle.tt_exec_stack.proofs.managing.roll.Goals as goal

pub returns : goal.returns
returns c =
    let a : SFits w32 c.in_ok-a.a = search rules in
    let b : SFits w32 c.in_ok-b.b = search rules in
    let third : SFits w32 c.in_ok-c.c = search rules in
    let first = simp to_z-of_z at c.put.ensures in
    let second = rw first at (simp to_z-of_z at c.put-2.ensures) in
    let last = rw second at (simp to_z-of_z at c.put-3.ensures) in
    rw (c.in_ok-c.ensures.exact, c.in_ok-b.ensures.exact, c.in_ok-a.ensures.exact, last) refl
