use Rattle.std.proofs.Common.{◌≡◌, ◌++◌, drop}
use Rattle.tt_label_rows.specs.Units.{stepped_units}
use Rattle.tt_line.specs.Steps.{step_in_pixels}
use Rattle.tt_label_rows.proofs.steps.stepped_line.Given as goal

-- the units so far, and then the others
abbrev pub invariant-loop-i : goal.invariant-loop-i
invariant-loop-i l = l.made.items ++ stepped_units l.metrics (step_in_pixels l.metrics l.ppem) (drop l.i l.units)
    ≡ stepped_units l.metrics (step_in_pixels l.metrics l.ppem) l.units
