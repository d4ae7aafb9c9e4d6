use Rattle.std.proofs.Common.{add-one, sym, refl, get_or, pos, SFits, w16, w64, rules}
use Rattle.std.proofs.lemmas.Int.{to_z-of_z}
use Rattle.std.proofs.lemmas.Result.{err_from_is_err_and}
use Rattle.tt_exec_state.proofs.Places.{next_number}
use Rattle.tt_exec_state.proofs.variations.getvariation.Goals as goal

pub loop-coordinate-preserved : goal.loop-coordinate-preserved
loop-coordinate-preserved c =
    let all = c.args.coordinates.now in
    let i = c.loop-coordinate.coordinate-index in
    let next = next_number all i _ c.loop-coordinate.stack c.loop-coordinate-test.true refl in
    let own : SFits w16 (get_or all i (pos 0)) = search rules in
    let wide : SFits w64 c.from.result = search rules in
    let is = simp to_z-of_z at c.from.ensures in
    let pushed = rw is at (simp to_z-of_z at c.in_ok-push.ensures) in
    rw add-one (rw (next, pushed) at c.loop-coordinate.invariant)

pub returns-in_err-push : goal.returns-in_err-push
returns-in_err-push c =
    let all = c.args.coordinates.now in
    let i = c.loop-coordinate.coordinate-index in
    let next = next_number all i _ c.loop-coordinate.stack c.loop-coordinate-test.true refl in
    let own : SFits w16 (get_or all i (pos 0)) = search rules in
    let wide : SFits w64 c.from.result = search rules in
    let is = simp to_z-of_z at c.from.ensures in
    let pushed = rw is at (simp to_z-of_z at c.in_err-push.ensures) in
    let whole = rw (next, pushed) at c.loop-coordinate.invariant in
    let e = err_from_is_err_and c.from_residual.result c.from_residual.ensures.1 in
    rw (e.1, e.2) (sym whole)
