use Rattle.std.proofs.Common.{◌≡◌, ℕ, ◌*◌, ◌&&◌, ◌||◌, nat_lt, length}
use Rattle.tt_core.specs.Bits.{bit}
use Rattle.tt_bitmap.specs.Words.{in_word}
use Rattle.tt_bitmap.proofs.eight.or_few.Given as goal

-- the columns of the bytes so far are black
abbrev pub invariant-loop-i : goal.invariant-loop-i
invariant-loop-i l = record {
  bits : (k : ℕ) → bit l.row k ≡ (bit l.fn.row k || (nat_lt k (8 * l.i) && in_word l.word k));
  len : length l.row ≡ length l.fn.row;
}
