use Rattle.std.proofs.Common.{◌≡◌, reverse, take}
use Rattle.tt_points_loops.specs.Deltas.{except, pairs_of}
use Rattle.tt_points_loops.specs.Series.{one_by_one, passing_over}
use Rattle.tt_points_zones.specs.Views.{zones_view}
use Rattle.tt_points_loops.proofs.deltas.deltap.Given as goal

-- the remaining steps, applied to the present state, give the whole result
abbrev pub invariant-loop-i : goal.invariant-loop-i
invariant-loop-i l = record {
  same : one_by_one (passing_over l.by.tolerance (except l.by.tolerance l.by.range l.by.ppem l.state))
      (reverse (take l.i (pairs_of l.pairs))) (zones_view l.zones)
      ≡ one_by_one (passing_over l.by.tolerance (except l.by.tolerance l.by.range l.by.ppem l.state))
      (reverse (pairs_of l.pairs)) (zones_view l.fn.zones);
}
