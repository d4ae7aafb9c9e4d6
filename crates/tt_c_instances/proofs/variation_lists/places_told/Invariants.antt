use Rattle.std.proofs.Common.{◌≡◌, ◌++◌, drop, map, pos, replicate}
use Rattle.std.specs.List.{range_with_len}
use Rattle.tt_axes.specs.Instances.{place_in}
use Rattle.tt_core.specs.Limits.{axis_limit}
use Rattle.tt_c_instances.proofs.variation_lists.places_told.Given as goal

-- the places so far, and then zeros
abbrev pub invariant-loop-i : goal.invariant-loop-i
invariant-loop-i l =
    l.places ≡ map (place_in l.fn.fvar l.fn.k) (range_with_len 0 l.i) ++ drop l.i (replicate axis_limit (pos 0))
