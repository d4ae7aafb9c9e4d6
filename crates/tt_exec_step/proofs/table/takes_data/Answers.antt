use Rattle.std.proofs.Common.{◌≡◌, arith}
use Rattle.tt_exec_step.proofs.OpcodeTable.{data_told}
use Rattle.tt_exec_step.proofs.table.takes_data.Goals as goal

pub returns : goal.returns
returns c = rw c.from.ensures (data_told c.args.op _ (omega arith))
