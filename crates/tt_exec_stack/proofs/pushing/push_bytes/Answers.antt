use Rattle.std.proofs.Common.{add-one, sym, refl, SFits, w64, rules}
use Rattle.std.proofs.lemmas.Int.{to_z-of_z}
use Rattle.std.proofs.lemmas.Result.{err_from_is_err_and}
use Rattle.tt_exec_stack.proofs.Words.{next_byte}
use Rattle.tt_exec_stack.proofs.pushing.push_bytes.Goals as goal

pub loop-byte-preserved : goal.loop-byte-preserved
loop-byte-preserved c =
    let next = next_byte c.args.bytes.now c.loop-byte.byte-index _ c.loop-byte.stack c.loop-byte-test.true refl in
    let wide : SFits w64 c.from.result = search rules in
    let pushed = rw c.from.ensures at (simp to_z-of_z at c.in_ok-push.ensures) in
    rw add-one (rw (next, pushed) at c.loop-byte.invariant)

pub returns-in_err-push : goal.returns-in_err-push
returns-in_err-push c =
    let next = next_byte c.args.bytes.now c.loop-byte.byte-index _ c.loop-byte.stack c.loop-byte-test.true refl in
    let wide : SFits w64 c.from.result = search rules in
    let pushed = rw c.from.ensures at (simp to_z-of_z at c.in_err-push.ensures) in
    let whole = rw (next, pushed) at c.loop-byte.invariant in
    let e = err_from_is_err_and c.from_residual.result c.from_residual.ensures.1 in
    rw (e.1, e.2) (sym whole)
