use Rattle.std.proofs.Common.{◌≡◌, ◌+◌, drop}
use Rattle.tt_points_iup.specs.Interpolation as is
use Rattle.tt_points_iup.specs.Readings.{up_to_first}
use Rattle.tt_points_iup.proofs.search.first_touched.Given as goal

-- the first touched point of the remaining ones is the first of all, and each of the others was read once
abbrev pub invariant-loop-i : goal.invariant-loop-i
invariant-loop-i l = record {
  same : is.first_touched l.fn.contour.along.axis (drop l.i l.fn.contour.points.now)
      ≡ is.first_touched l.fn.contour.along.axis l.fn.contour.points.now;
  left : l.contour.reads + up_to_first l.fn.contour.along.axis (drop l.i l.fn.contour.points.now)
      ≡ l.fn.contour.reads + up_to_first l.fn.contour.along.axis l.fn.contour.points.now;
  asked : l.contour.reads ≡ l.fn.contour.reads + l.i;
  points : l.contour.points.now ≡ l.fn.contour.points.now;
  along : l.contour.along ≡ l.fn.contour.along;
  name : l.contour.points.ghost_name ≡ l.fn.contour.points.ghost_name;
}
