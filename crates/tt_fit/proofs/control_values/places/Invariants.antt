use Rattle.std.proofs.Common.{◌≡◌, map, take}
use Rattle.tt_fit_hinting.specs.state.Instances.{f2dot14, instance_of}
use Rattle.tt_fit.proofs.control_values.places.Given as goal

-- the places of the axes so far
abbrev pub invariant-loop-i : goal.invariant-loop-i
invariant-loop-i l = instance_of l.places ≡ map f2dot14 (take l.i l.coordinates)
