use Rattle.std.proofs.Common.{◌≡◌, ℕ, ◌||◌, ◌&&◌, nat_lt, length, take}
use Rattle.tt_core.specs.Bits.{bit}
use Rattle.tt_scan_edges.specs.Marks.{covers_from}
use Rattle.tt_scan.proofs.stamp.paint_fitting.Given as goal

-- the pens so far are done
abbrev pub invariant-loop-i : goal.invariant-loop-i
invariant-loop-i l = record {
  bits : (k : ℕ) → bit l.row k ≡ (bit l.fn.row k || (nat_lt k l.width && covers_from l.spans (take l.i l.pens) k));
  len : length l.row ≡ length l.fn.row;
}
