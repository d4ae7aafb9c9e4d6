use Rattle.std.proofs.Common.{◌≡◌, ◌<◌, ◌++◌, ℕ, ℤ, true, length, map}
use Rattle.std.specs.Prelude.{All}
use Rattle.std.specs.Vec.Iter.{into_iter_items, into_iter_len}
use Rattle.tt_label.specs.Fitted.{with_steps}
use Rattle.tt_picture.specs.Distinct.{is_among}
use Rattle.tt_picture.specs.Fitted.{AreAdvances, fitted_numbers}
use Rattle.tt_picture.specs.Steps.{step_by}
use Rattle.tt_label.proofs.fitting.step_lines.Given as goal

-- the lines so far, and then those that are left
abbrev pub invariant-loop-line : goal.invariant-loop-line
invariant-loop-line l = record {
  count : into_iter_len l.line-iterator ≡ length (into_iter_items l.line-iterator);
  known : All (λ v. All (λ g. g.0 < length l.places) v.items) (into_iter_items l.line-iterator);
  among : All (λ v. All (λ g. is_among g.0 (fitted_numbers l.fitted) ≡ true) v.items) (into_iter_items l.line-iterator);
  steps : (advance : ℕ → ℤ) → AreAdvances advance l.fitted
      → map (λ v. v.items) l.made.items ++ with_steps l.metrics (step_by l.metrics l.ppem advance) (map (λ v. v.items) (into_iter_items l.line-iterator))
      ≡ with_steps l.metrics (step_by l.metrics l.ppem advance) (map (λ v. v.items) l.fn.lines.items);
}
