use Rattle.std.proofs.Common.{arith}
use Rattle.tt_png.proofs.Registers.{after_byte_is}
use Rattle.tt_png.proofs.crc.after_byte.Goals as goal

pub returns : goal.returns
returns c = rw c.after_eight.ensures (after_byte_is c.args.register c.args.byte (omega arith))
