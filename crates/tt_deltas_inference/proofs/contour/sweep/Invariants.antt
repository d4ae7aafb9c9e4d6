use Rattle.std.proofs.Common.{◌≡◌, ◌-◌, ◌≤◌, ◌++◌, length, take, drop}
use Rattle.tt_deltas_inference.specs.Bounds.{IsGiven}
use Rattle.tt_deltas_inference.specs.Sweeps.{swept}
use Rattle.tt_deltas_inference.proofs.contour.sweep.Given as goal

-- the points so far, followed by a sweep of the rest, are a sweep of all
abbrev pub invariant-loop-start : goal.invariant-loop-start
invariant-loop-start l = record {
  place : l.start ≤ length l.points;
  so_far : take l.start l.points ++ swept l.before l.first (drop l.start l.fn.points) ≡ swept l.fn.last l.first l.fn.points;
  rest : drop l.start l.points ≡ drop l.start l.fn.points;
  given : IsGiven l.before;
}

abbrev pub decreases-loop-start : goal.decreases-loop-start
decreases-loop-start l = length l.initial.points - l.start
