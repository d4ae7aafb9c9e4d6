use Rattle.std.proofs.Common.{◌+◌, ◌<◌, length, arith}
use Rattle.tt_axes.specs.Avar.{list_place}
use Rattle.tt_axes.proofs.Lists.{too-short}
use Rattle.tt_axes.proofs.avar.lists_fit.Goals as goal

pub returns-then-table-at : goal.returns-then-table-at
returns-then-table-at c =
    let place = c.loop-i.invariant.0 in
    let short : length c.args.table.now < list_place c.args.table.now c.loop-i._i + 2 = rw place at c.if-table-at.true in
    too-short c.args.table.now c.loop-i._i c.args.axes (omega arith) short
