use Rattle.std.proofs.Common.{◌≡◌, ℕ, ◌<◌, max, drop, length, slice_index}
use Rattle.tt_bdf.specs.Asked.{reach_at}
use Rattle.tt_bdf.proofs.asked.reaches.Given as goal

-- the reaches so far, and those of the remaining ranges, are those of all
abbrev pub invariant-loop-r : goal.invariant-loop-r
invariant-loop-r l = record {
  count : length l.reaches.items ≡ l.fn.count;
  reach : (n : ℕ) → n < l.fn.count
      → max (slice_index l.reaches.items n) (reach_at (drop l.r-index l.ranges) n) ≡ reach_at l.ranges n;
}
