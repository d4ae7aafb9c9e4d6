use Rattle.std.proofs.Common.{◌≡◌, drop}
use Rattle.tt_advice.specs.Signs.{is_plain}
use Rattle.tt_advice.proofs.signs.is_plain.Given as goal

-- all bytes are printed where the remaining ones are
abbrev pub invariant-loop-byte : goal.invariant-loop-byte
invariant-loop-byte l = is_plain (drop l.byte-index l.text) ≡ is_plain l.text
