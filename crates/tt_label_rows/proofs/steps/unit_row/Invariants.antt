use Rattle.std.proofs.Common.{◌≡◌, ◌++◌, ℕ, drop, map}
use Rattle.tt_label_rows.specs.Units.{stepped_units, unit_glyphs}
use Rattle.tt_line.specs.Steps.{step_by_units}
use Rattle.tt_label_rows.proofs.steps.unit_row.Given as goal

-- the units so far, and then the others
abbrev pub invariant-loop-i : goal.invariant-loop-i
invariant-loop-i l = (advance : ℕ → ℕ) → l.line ≡ map (λ g. (g, advance g)) (unit_glyphs l.units)
    → l.made.items ++ stepped_units l.metrics (step_by_units l.metrics l.ppem advance) (drop l.i l.units)
    ≡ stepped_units l.metrics (step_by_units l.metrics l.ppem advance) l.units
