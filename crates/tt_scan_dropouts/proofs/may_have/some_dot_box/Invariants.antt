use Rattle.std.proofs.Common.{◌≡◌, false, drop, length}
use Rattle.std.specs.List.{list_any}
use Rattle.tt_scan.specs.Contours.{AreEndsFrom, contours_at, contours_from}
use Rattle.tt_scan_gaps.specs.Dots.{has_dot_box}
use Rattle.tt_scan_dropouts.proofs.may_have.some_dot_box.Given as goal

-- no contour has the box of a dot if none of the remaining ones has
abbrev pub invariant-loop-i : goal.invariant-loop-i
invariant-loop-i l = record {
  left : AreEndsFrom l.from (length l.contours.edges.now) (drop l.i l.contours.ends.now);
  none : list_any has_dot_box (contours_from l.from l.contours.edges.now (drop l.i l.contours.ends.now)) ≡ false
      → list_any has_dot_box (contours_at l.contours.edges.now l.contours.ends.now) ≡ false;
}
