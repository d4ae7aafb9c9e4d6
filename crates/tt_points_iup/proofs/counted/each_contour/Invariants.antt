use Rattle.std.proofs.Common.{◌≡◌, ◌+◌, ◌*◌, ◌≤◌, ◌++◌, length, take, drop, All}
use Rattle.tt_points_zones.specs.Zones.{IsPoint, AreContours}
use Rattle.tt_points_iup.specs.Interpolation as is
use Rattle.tt_points_iup.specs.Readings.{of_contours}
use Rattle.tt_points_iup.proofs.counted.each_contour.Given as goal

-- the contours so far, followed by the result for the others, are the result for all
abbrev pub invariant-loop-range : goal.invariant-loop-range
invariant-loop-range l = record {
  place : AreContours l.start (drop l.range-index l.contours) (length l.fn.points);
  so_far : take l.start l.points ++ is.contours l.along l.start (drop l.range-index l.contours) l.fn.points
      ≡ is.contours l.along 0 l.contours l.fn.points;
  rest : drop l.start l.points ≡ drop l.start l.fn.points;
  valid : All IsPoint l.points;
  read : l.reads + of_contours l.along.axis (drop l.range-index l.contours) l.fn.points
      ≡ of_contours l.along.axis l.contours l.fn.points;
  few : l.reads ≤ 3 * l.start;
}
