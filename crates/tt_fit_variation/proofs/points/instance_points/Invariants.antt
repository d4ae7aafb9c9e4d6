use Rattle.std.proofs.Common.{◌≡◌, ◌++◌, length, drop, Ok}
use Rattle.tt_core.specs.Outcomes.{◌>>=◌}
use Rattle.tt_fit_outline.specs.Views.{size_view}
use Rattle.tt_fit_variation.specs.Moved.{instance_points}
use Rattle.tt_fit_variation.specs.Views.{points_view}
use Rattle.tt_fit_variation.proofs.points.instance_points.Given as goal

-- the points so far, and then those that are left
abbrev pub invariant-loop-i : goal.invariant-loop-i
invariant-loop-i l = record {
  so_far : (instance_points (size_view l.size) l.at (drop l.i l.points) (drop l.i l.xs) (drop l.i l.ys)
      >>= λ others. Ok (points_view l.moved.items ++ others))
      ≡ instance_points (size_view l.size) l.at l.points l.xs l.ys;
  count : length l.moved.items ≡ l.i;
}
