use Rattle.std.proofs.Common.{◌≡◌, ◌++◌, drop, length}
use Rattle.tt_scan.specs.Contours.{AreEndsFrom, contours_at, contours_from}
use Rattle.tt_scan_gaps.specs.Gaps.{free_marks}
use Rattle.tt_scan_gaps.specs.Walk.{marks}
use Rattle.tt_scan_dropouts.specs.Windows.{is_black_by}
use Rattle.tt_scan_dropouts.proofs.marks.free_marks.Given as goal

-- the marks so far and those of the remaining contours are all marks
abbrev pub invariant-loop-i : goal.invariant-loop-i
invariant-loop-i l = record {
  left : AreEndsFrom l.from (length l.contours.edges.now) (drop l.i l.contours.ends.now);
  all : l.marks.items
      ++ free_marks (is_black_by l.pass.over l.pass.ink.now) (marks l.pass.rules.stubs (contours_from l.from l.contours.edges.now (drop l.i l.contours.ends.now)))
      ≡ free_marks (is_black_by l.pass.over l.pass.ink.now) (marks l.pass.rules.stubs (contours_at l.contours.edges.now l.contours.ends.now));
}
