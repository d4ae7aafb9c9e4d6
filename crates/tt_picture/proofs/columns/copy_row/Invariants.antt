use Rattle.std.proofs.Common.{◌≡◌, ℕ, ◌+◌, ◌&&◌, ◌||◌, nat_lt, length}
use Rattle.tt_core.specs.Bits.{bit}
use Rattle.tt_picture.proofs.columns.copy_row.Given as goal

-- the columns so far are copied
abbrev pub invariant-loop-c : goal.invariant-loop-c
invariant-loop-c l = record {
  bits : (k : ℕ) → bit l.row k ≡ (bit l.fn.row k || (nat_lt k l.c && bit l.wide (l.from + k)));
  len : length l.row ≡ length l.fn.row;
}
