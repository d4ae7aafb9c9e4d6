use Rattle.std.proofs.Common.{◌≡◌, length, drop, All}
use Rattle.tt_fit_outline.specs.Outline.{IsPoint}
use Rattle.tt_core.specs.Outcomes.{each, after_each}
use Rattle.tt_fit_outline.specs.Scaling.{scaled_point}
use Rattle.tt_fit_outline.specs.Views.{size_view}
use Rattle.tt_fit_outline.proofs.scaling.scaled_points.Given as goal

abbrev pub invariant-loop-point : goal.invariant-loop-point
invariant-loop-point l = record {
  so_far : after_each (scaled_point (size_view l.size) l.at) (drop l.point-index l.points) l.scaled.items
      ≡ each (scaled_point (size_view l.size) l.at) l.points;
  count : length l.scaled.items ≡ l.point-index;
  coordinates : All IsPoint l.scaled.items;
}
