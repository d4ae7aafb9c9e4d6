use Rattle.std.proofs.Common.{◌≡◌, ℕ, drop, length, map}
use Rattle.tt_line.proofs.Kerned.{partly}
use Rattle.tt_line.specs.Steps.{step_by_units}
use Rattle.tt_line.proofs.steps.put_unit_steps.Given as goal

-- the glyphs so far have their steps, and the others their advances
abbrev pub invariant-loop-i : goal.invariant-loop-i
invariant-loop-i l = record {
  count : length l.line ≡ length l.fn.line;
  rest : drop l.i l.line ≡ drop l.i l.fn.line;
  steps : (units : ℕ → ℕ) → l.fn.line ≡ map (λ g. (g, units g)) (map (λ p. p.0) l.fn.line)
      → l.line ≡ partly l.fn.metrics (step_by_units l.fn.metrics l.fn.ppem units) l.i l.fn.line;
}
