use Rattle.std.proofs.Common.{◌≡◌, ◌++◌, drop, map}
use Rattle.tt_fit_variation.specs.Fine.{varied_control_value}
use Rattle.tt_fit.proofs.control_values.instance_control_values.Given as goal

-- the values so far, and then those that are left
abbrev pub invariant-loop-i : goal.invariant-loop-i
invariant-loop-i l =
    l.values.items ++ map (varied_control_value l.scale) (drop l.i l.varied.items)
    ≡ map (varied_control_value l.scale) l.varied.items
