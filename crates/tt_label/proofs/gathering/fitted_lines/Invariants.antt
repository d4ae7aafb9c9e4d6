use Rattle.std.proofs.Common.{◌≡◌, ℕ, ℤ, map, take}
use Rattle.tt_label_rows.specs.Units.{stepped_lines}
use Rattle.tt_picture.specs.Fitted.{AreAdvances}
use Rattle.tt_picture.specs.Steps.{step_by}
use Rattle.tt_label.proofs.gathering.fitted_lines.Given as goal

-- the lines so far
abbrev pub invariant-loop-line : goal.invariant-loop-line
invariant-loop-line l = (advance : ℕ → ℤ) → AreAdvances advance l.glyphs.fitted.items
    → map (λ v. v.items) l.made.items
    ≡ stepped_lines l.source.face.now.metrics (step_by l.source.face.now.metrics l.source.ppem advance) (map (λ v. v.items) (take l.line-index l.lines))
