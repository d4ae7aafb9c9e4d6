use Rattle.std.proofs.Common.{◌≡◌, ℕ, ◌+◌, ◌-◌, ◌*◌, ◌/◌, ◌&&◌, ◌||◌, nat_le, nat_lt, length}
use Rattle.tt_core.specs.Bits.{bit}
use Rattle.tt_scan.specs.Stamps.{in_word}
use Rattle.tt_scan.proofs.stamp.or_bytes.Given as goal

-- the word's columns in the bytes so far are black
abbrev pub invariant-loop-i : goal.invariant-loop-i
invariant-loop-i l = record {
  bits : (k : ℕ) → bit l.row k ≡ (bit l.fn.row k || (nat_lt k (8 * (l.at / 8 + l.i)) && (nat_le l.at k && in_word l.stamp.word (k - l.at))));
  len : length l.row ≡ length l.fn.row;
}
