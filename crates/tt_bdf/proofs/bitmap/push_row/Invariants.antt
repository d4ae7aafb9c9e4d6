use Rattle.std.proofs.Common.{◌≡◌, ◌++◌, drop, flat_map}
use Rattle.tt_bdf.specs.Bitmap.{byte_digits}
use Rattle.tt_bdf.proofs.bitmap.push_row.Given as goal

-- the text so far, and then the digits of the remaining bytes, is the whole text
abbrev pub invariant-loop-byte : goal.invariant-loop-byte
invariant-loop-byte l =
    l.text.items ++ flat_map byte_digits (drop l.byte-index l.row)
    ≡ l.initial.text.items ++ flat_map byte_digits l.row
