use Rattle.std.proofs.Common.{◌≡◌, length, take, All}
use Rattle.tt_fit_outline.specs.Outline.{IsPoint}
use Rattle.tt_fit_variation.specs.Moved.{instance_places}
use Rattle.tt_fit_variation.specs.Views.{points_view}
use Rattle.tt_fit_variation.proofs.points.instance_places.Given as goal

-- the points so far
abbrev pub invariant-loop-point : goal.invariant-loop-point
invariant-loop-point l = record {
  so_far : l.places.items ≡ instance_places (points_view (take l.point-index l.points));
  count : length l.places.items ≡ l.point-index;
  within : All IsPoint l.places.items;
}
