use Rattle.std.proofs.Common.{◌≡◌, ℕ, ◌<◌, ◌≤◌, true, false}
use Rattle.tt_scan_gaps.specs.BothWays.{has_mark, is_black_seen, slot}
use Rattle.tt_scan_gaps.specs.Crossings.{crossing, line_crossed}
use Rattle.tt_scan_gaps.specs.Gaps.{is_free}
use Rattle.tt_scan_gaps.proofs.both_ways.mark_crossings.Given as goal

-- the crossings so far are marked, and no marked one in the other table lies in a free gap; looks
-- are only taken
abbrev pub invariant-loop-k : goal.invariant-loop-k
invariant-loop-k l = record {
  marked : (m : ℕ) → m < l.k
      → has_mark l.table (slot (line_crossed l.edge m) (crossing l.edge (line_crossed l.edge m)).gap) ≡ true;
  kept : (s : ℕ) → has_mark l.fn.table s ≡ true → has_mark l.table s ≡ true;
  taken : (m : ℕ) → m < l.k
      → has_mark l.other (slot (line_crossed l.edge m) (crossing l.edge (line_crossed l.edge m)).gap) ≡ true
      → is_free (is_black_seen l.pass.over l.pass.edges.now) (crossing l.edge (line_crossed l.edge m)).gap (line_crossed l.edge m)
      ≡ false;
  fewer : l.looks ≤ l.fn.looks;
}
