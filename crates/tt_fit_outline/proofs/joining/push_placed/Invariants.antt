use Rattle.std.proofs.Common.{◌≡◌, ◌+◌, length, drop, All}
use Rattle.tt_fit_outline.specs.Component.{placed_point}
use Rattle.tt_fit_outline.specs.Outline.{IsPoint}
use Rattle.tt_core.specs.Outcomes.{after_each}
use Rattle.tt_fit_outline.specs.Views.{shift_view}
use Rattle.tt_fit_outline.proofs.joining.push_placed.Given as goal

abbrev pub invariant-loop-point : goal.invariant-loop-point
invariant-loop-point l = record {
  so_far : after_each (placed_point l.halves l.part (shift_view l.by)) (drop l.point-index l.component) l.points.items
      ≡ after_each (placed_point l.halves l.part (shift_view l.by)) l.component l.fn.points.items;
  count : length l.points.items ≡ length l.fn.points.items + l.point-index;
  coordinates : All IsPoint l.points.items;
}
