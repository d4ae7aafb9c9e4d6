use Rattle.std.proofs.Common.{◌≡◌, All, Ok}
use Rattle.tt_points_loops.specs.Flipping.{put_on}
use Rattle.tt_points_loops.specs.Series.{each_from_to}
use Rattle.tt_points_zones.specs.Zones.{IsPoint}
use Rattle.tt_points_loops.proofs.flipping.put_all_on.Given as goal

-- the remaining steps, applied to the present state, give the whole result
abbrev pub invariant-loop-i : goal.invariant-loop-i
invariant-loop-i l = record {
  same : each_from_to l.i l.past (λ i p. Ok (put_on l.on p)) 0 l.points
      ≡ each_from_to l.low l.past (λ i p. Ok (put_on l.on p)) 0 l.fn.points;
  valid : All IsPoint l.points;
}
