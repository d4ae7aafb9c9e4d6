use Rattle.std.proofs.Common.{◌≡◌, ℕ, ◌-ℤ◌, ◌&&◌, ◌||◌, nat_lt, length, drop, pos}
use Rattle.tt_core.specs.Bits.{bit}
use Rattle.tt_scan_edges.specs.Marks.{covers}
use Rattle.tt_scan.proofs.paint.paint_spans.Given as goal

-- the black columns so far and the remaining spans are all spans
abbrev pub invariant-loop-i : goal.invariant-loop-i
invariant-loop-i l = record {
  bits : (k : ℕ) → (bit l.row k || (nat_lt k l.width && covers (drop l.i l.spans) (pos k -ℤ l.shift)))
      ≡ (bit l.fn.row k || (nat_lt k l.width && covers l.spans (pos k -ℤ l.shift)));
  len : length l.row ≡ length l.fn.row;
}
