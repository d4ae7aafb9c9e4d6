use Rattle.std.proofs.Common.{◌≡◌, ◌++◌, drop, map, take}
use Rattle.tt_c_calls.specs.Variations.{axis_value, no_values}
use Rattle.tt_c_calls.proofs.variation.values_of.Given as goal

-- the values so far, and then the blank ones
abbrev pub invariant-loop-i : goal.invariant-loop-i
invariant-loop-i l = l.values ≡ map axis_value (take l.i l.fn.axis) ++ drop l.i no_values
