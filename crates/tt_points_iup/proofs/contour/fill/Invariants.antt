use Rattle.std.proofs.Common.{◌≡◌, length}
use Rattle.tt_points_iup.specs.Interpolation as is
use Rattle.tt_points_iup.proofs.Filled.{Filled}
use Rattle.tt_points_iup.proofs.contour.fill.Given as goal

-- the points so far are interpolated, the others unchanged
abbrev pub invariant-loop-k : goal.invariant-loop-k
invariant-loop-k l = record {
  filled : Filled (is.interpolated l.fn.contour.along l.fn.around.before.point l.fn.around.after.point) l.contour.points.now
      l.fn.contour.points.now l.start l.k;
  many : length l.contour.points.now ≡ length l.fn.contour.points.now;
  reads : l.contour.reads ≡ l.fn.contour.reads;
  along : l.contour.along ≡ l.fn.contour.along;
  name : l.contour.points.ghost_name ≡ l.fn.contour.points.ghost_name;
}
