use Rattle.std.proofs.Common.{◌≡◌, ◌/◌, slice_index_or, arith}
use Rattle.tt_exec_step.proofs.OpcodeTable.{entries, worked}
use Rattle.tt_exec_step.proofs.table.fixed_work.Goals as goal

pub returns : goal.returns
returns c =
    let is : c.from-2.result ≡ slice_index_or entries c.args.op _ / 16 = rw c.from.ensures at c.from-2.ensures in
    rw is (worked c.args.op _ (omega arith))
