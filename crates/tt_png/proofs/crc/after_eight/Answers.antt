use Rattle.std.proofs.Common.{arith}
use Rattle.tt_png.proofs.Table.{told}
use Rattle.tt_png.proofs.crc.after_eight.Goals as goal

pub returns : goal.returns
returns c = rw c.from.ensures (told c.args.byte _ (omega arith))
