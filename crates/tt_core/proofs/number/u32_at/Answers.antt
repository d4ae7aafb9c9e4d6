use Rattle.std.proofs.Common.{arith}
use Rattle.tt_core.proofs.Numbers.{number_read}
use Rattle.tt_core.proofs.number.u32_at.Goals as goal

pub returns : goal.returns
returns c = number_read c.args.b.now c.args.at 4 c.read_u32.result c.read_u32.ensures (omega arith)
