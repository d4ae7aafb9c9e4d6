use Rattle.std.proofs.Common.{◌≡◌, ℤ, ◌-◌, ◌<◌, ◌≤◌, ◌||◌, ◌-ℤ◌, pos, length}
use Rattle.tt_scan_gaps.specs.Gaps.{IsFirstInGap, asked}
use Rattle.tt_scan_dropouts.specs.Passes.{has_pixel}
use Rattle.tt_scan_dropouts.specs.Windows.{is_black_by}
use Rattle.tt_scan_dropouts.proofs.PassSteps.{IsLast, added_so_far}
use Rattle.tt_scan_dropouts.proofs.pass.added_by.Given as goal

-- the pixels that the gaps so far add, and the gap that needed one last
abbrev pub invariant-loop-start : goal.invariant-loop-start
invariant-loop-start l = record {
  within : l.start ≤ length l.marks;
  first : l.start < length l.marks → IsFirstInGap l.marks l.start;
  added : (p j : ℤ) → has_pixel l.added.items p j
      ≡ (added_so_far (asked l.pass.rules l.columns l.marks (is_black_by l.pass.over l.pass.ink.now)) l.marks l.start j p p
      || added_so_far (asked l.pass.rules l.columns l.marks (is_black_by l.pass.over l.pass.ink.now)) l.marks l.start j (p -ℤ pos 1) p);
  last : IsLast (asked l.pass.rules l.columns l.marks (is_black_by l.pass.over l.pass.ink.now)) l.marks l.start l.last;
}

abbrev pub decreases-loop-start : goal.decreases-loop-start
decreases-loop-start l = length l.marks - l.start
