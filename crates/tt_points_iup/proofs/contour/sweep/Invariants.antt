use Rattle.std.proofs.Common.{◌≡◌, ◌+◌, ◌-◌, ◌≤◌, ◌++◌, length, take, drop}
use Rattle.tt_points_iup.specs.Sweeps.{swept}
use Rattle.tt_points_iup.proofs.contour.sweep.Given as goal

-- the points so far, followed by a sweep of the rest, are a sweep of all
abbrev pub invariant-loop-start : goal.invariant-loop-start
invariant-loop-start l = record {
  place : l.start ≤ length l.fn.contour.points.now;
  so_far : take l.start l.contour.points.now
      ++ swept l.fn.contour.along l.before.point l.first.point (drop l.start l.fn.contour.points.now)
      ≡ swept l.fn.contour.along l.fn.last.point l.first.point l.fn.contour.points.now;
  rest : drop l.start l.contour.points.now ≡ drop l.start l.fn.contour.points.now;
  many : length l.contour.points.now ≡ length l.fn.contour.points.now;
  reads : l.contour.reads ≡ l.fn.contour.reads + l.start;
  along : l.contour.along ≡ l.fn.contour.along;
  name : l.contour.points.ghost_name ≡ l.fn.contour.points.ghost_name;
}

abbrev pub decreases-loop-start : goal.decreases-loop-start
decreases-loop-start l = length l.fn.contour.points.now - l.start
