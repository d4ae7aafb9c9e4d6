use Rattle.std.proofs.Common.{◌≡◌, length, take}
use Rattle.tt_fit_variation.specs.Moved.{instance_units}
use Rattle.tt_fit_variation.specs.Views.{points_view}
use Rattle.tt_fit_variation.proofs.points.instance_units.Given as goal

-- the points so far
abbrev pub invariant-loop-point : goal.invariant-loop-point
invariant-loop-point l = record {
  so_far : l.units.items ≡ instance_units (points_view (take l.point-index l.points));
  count : length l.units.items ≡ l.point-index;
}
