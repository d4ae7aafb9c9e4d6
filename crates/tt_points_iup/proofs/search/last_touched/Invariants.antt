use Rattle.std.proofs.Common.{◌≡◌, ◌+◌, None, drop}
use Rattle.tt_points_iup.specs.Interpolation as is
use Rattle.tt_points_iup.specs.Positions.{point_of}
use Rattle.tt_points_iup.proofs.search.last_touched.Given as goal

-- the last touched point of the remaining ones, or the one found before, is the last of all
abbrev pub invariant-loop-i : goal.invariant-loop-i
invariant-loop-i l = record {
  same : is.last_touched l.fn.contour.along.axis (point_of l.last) (drop l.i l.fn.contour.points.now)
      ≡ is.last_touched l.fn.contour.along.axis None l.fn.contour.points.now;
  asked : l.contour.reads ≡ l.fn.contour.reads + l.i;
  points : l.contour.points.now ≡ l.fn.contour.points.now;
  along : l.contour.along ≡ l.fn.contour.along;
  name : l.contour.points.ghost_name ≡ l.fn.contour.points.ghost_name;
}
