use Rattle.std.proofs.Common.{◌≡◌, ℕ, ℤ, map}
use Rattle.tt_line.proofs.Kerned.{partly}
use Rattle.tt_picture.specs.Fitted.{AreAdvances}
use Rattle.tt_picture.specs.Steps.{step_by}
use Rattle.tt_strike.proofs.steps.put_steps.Given as goal

-- the glyphs keep their numbers, and those so far have their steps
abbrev pub invariant-loop-i : goal.invariant-loop-i
invariant-loop-i l = record {
  numbers : map (λ g. g.0) l.line ≡ map (λ g. g.0) l.fn.line;
  steps : (advance : ℕ → ℤ) → AreAdvances advance l.fitted
      → l.line ≡ partly l.fn.metrics (step_by l.fn.metrics l.fn.ppem advance) l.i l.fn.line;
}
