use Rattle.std.proofs.Common.{◌≡◌, ℕ, ℤ, ◌-◌, ◌^◌, ◌<◌, ◌≤◌, take, unsigned_abs}
use Rattle.std.specs.Int.{bit_at}
use Rattle.tt_scan_edges.specs.Marks.{covers}
use Rattle.tt_scan.specs.Stamps.{shows}
use Rattle.tt_scan.proofs.stamp.stamped.Given as goal

-- the stamp has the spans so far
abbrev pub invariant-loop-i : goal.invariant-loop-i
invariant-loop-i l = record {
  shows : (c : ℤ) → covers (take l.i l.spans) c ≡ shows l.stamp.0 l.stamp.1.1.0 c;
  near : unsigned_abs l.stamp.0 ≤ 2 ^ 40;
  narrow : l.stamp.1.0 ≤ 57;
  free : (i : ℕ) → i < 64 - l.stamp.1.0 → bit_at l.stamp.1.1.0 i ≡ 0;
}
