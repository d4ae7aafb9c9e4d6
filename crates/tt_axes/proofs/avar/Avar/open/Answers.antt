use Rattle.std.proofs.Common.{◌≤◌, length}
use Rattle.tt_core.specs.Limits.{font_limit}
use Rattle.tt_axes.proofs.avar.Avar.open.Goals as goal

pub invariant_of-result : goal.invariant_of-result
invariant_of-result c =
    let axes = c.is_avar.ensures.axes c.if-is_avar.true in
    let fits = c.is_avar.ensures.fits c.if-is_avar.true in
    let small : length c.in-Ok-Some.table.now ≤ font_limit = rw c.in-Ok-Some.field-0-is at c.in-Ok-Some.ensures.size in
    (rw axes fits, small)
