use Rattle.std.proofs.Common.{arith}
use Rattle.tt_core.proofs.Numbers.{number_read}
use Rattle.tt_core.proofs.number.u24_at.Goals as goal

pub returns : goal.returns
returns c = number_read c.args.b.now c.args.at 3 c.read_u24.result c.read_u24.ensures (omega arith)
