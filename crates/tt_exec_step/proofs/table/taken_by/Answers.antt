use Rattle.std.proofs.Common.{◌≡◌, ◌%◌, slice_index_or, arith}
use Rattle.tt_exec_step.proofs.OpcodeTable.{entries, taken, few}
use Rattle.tt_exec_step.proofs.table.taken_by.Goals as goal

pub returns : goal.returns
returns c =
    let is : c.from-2.result ≡ slice_index_or entries c.args.op _ % 8 = rw c.from.ensures at c.from-2.ensures in
    record { exact = rw is (taken c.args.op _ (omega arith)); few = rw is (few c.args.op _ (omega arith)) }
