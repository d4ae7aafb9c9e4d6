use Rattle.std.proofs.Common.{◌≡◌, fold, take}
use Rattle.tt_png.specs.Crc.{after_byte}
use Rattle.tt_png.proofs.crc.crc_32.Given as goal

-- the register after the bytes so far
abbrev pub invariant-loop-byte : goal.invariant-loop-byte
invariant-loop-byte l = l.register ≡ fold after_byte 0xFFFFFFFF (take l.byte-index l.bytes)
