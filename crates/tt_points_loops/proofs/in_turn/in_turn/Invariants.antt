use Rattle.std.proofs.Common.{◌≡◌, reverse, take}
use Rattle.tt_points_loops.specs.InTurn.{changed}
use Rattle.tt_points_loops.specs.Series.{one_by_one, passing_over}
use Rattle.tt_points_zones.specs.Views.{zones_view}
use Rattle.tt_points_loops.proofs.in_turn.in_turn.Given as goal

-- the remaining steps, applied to the present state, give the whole result
abbrev pub invariant-loop-i : goal.invariant-loop-i
invariant-loop-i l = record {
  same : one_by_one (passing_over l.tolerance (changed l.change l.state)) (reverse (take l.i l.numbers))
      (zones_view l.zones)
      ≡ one_by_one (passing_over l.tolerance (changed l.change l.state)) (reverse l.numbers)
      (zones_view l.fn.zones);
}
