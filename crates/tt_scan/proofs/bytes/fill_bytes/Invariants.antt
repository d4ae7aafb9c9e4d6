use Rattle.std.proofs.Common.{◌≡◌, ℕ, ◌*◌, ◌≤◌, ◌&&◌, ◌||◌, nat_le, nat_lt, length}
use Rattle.tt_core.specs.Bits.{bit}
use Rattle.tt_scan.proofs.bytes.fill_bytes.Given as goal

-- the bytes before this one are black
abbrev pub invariant-loop-byte : goal.invariant-loop-byte
invariant-loop-byte l = record {
  bits : (k : ℕ) → bit l.row k ≡ (bit l.fn.row k || (nat_le (8 * l.from) k && nat_lt k (8 * l.byte)));
  len : length l.row ≡ length l.fn.row;
  reached : l.from ≤ l.byte;
}
