use Rattle.std.proofs.Common.{◌≡◌, drop, map}
use Rattle.tt_scan_gaps.specs.Boxes.{ExtentsFit}
use Rattle.tt_arc.specs.Bounds.{box_from, box_of}
use Rattle.tt_arc.specs.Chords.{moved}
use Rattle.tt_arc.proofs.bounds.box_of.Given as goal

abbrev pub invariant-loop-i : goal.invariant-loop-i
invariant-loop-i l = record {
  boxed : box_from l.extents (map (moved l.by.dx l.by.dy) (drop l.i l.points)) ≡ box_of (map (moved l.by.dx l.by.dy) l.points);
  fits : ExtentsFit l.extents;
}
