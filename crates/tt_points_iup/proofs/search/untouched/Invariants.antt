use Rattle.std.proofs.Common.{◌≡◌, ◌+◌, None, take, drop}
use Rattle.tt_points_iup.specs.Interpolation as is
use Rattle.tt_points_iup.proofs.search.untouched.Given as goal

-- no point so far is touched
abbrev pub invariant-loop-k : goal.invariant-loop-k
invariant-loop-k l = record {
  none : is.first_touched l.fn.contour.along.axis (take l.k (drop l.start l.fn.contour.points.now)) ≡ None;
  asked : l.contour.reads ≡ l.fn.contour.reads + l.k;
  points : l.contour.points.now ≡ l.fn.contour.points.now;
  along : l.contour.along ≡ l.fn.contour.along;
  name : l.contour.points.ghost_name ≡ l.fn.contour.points.ghost_name;
}
