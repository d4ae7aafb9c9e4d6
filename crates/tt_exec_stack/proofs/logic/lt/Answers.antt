use Rattle.std.proofs.Common.{SFits, w32, w64, rules}
use Rattle.std.proofs.lemmas.Int.{to_z-of_z}
use Rattle.tt_exec_stack.proofs.logic.lt.Goals as goal

pub returns : goal.returns
returns c =
    let a : SFits w32 c.in_ok-a.a = search rules in
    let b : SFits w32 c.in_ok-b.b = search rules in
    let wide : SFits w64 c.truth.result = search rules in
    let truth = simp to_z-of_z at c.truth.ensures in
    let pushed = simp to_z-of_z at c.push.ensures in
    rw (c.in_ok-b.ensures.exact, c.in_ok-a.ensures.exact) (rw truth at pushed)
