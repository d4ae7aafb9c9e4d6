use Rattle.std.proofs.Common.{◌≡◌, ℕ, ℤ, ◌++◌, drop}
use Rattle.tt_label_rows.specs.Units.{stepped_units, unit_glyphs}
use Rattle.tt_line.specs.Steps.{stepped}
use Rattle.tt_picture.specs.Fitted.{AreAdvances}
use Rattle.tt_picture.specs.Steps.{step_by}
use Rattle.tt_label.proofs.gathering.put_units.Given as goal

-- the units so far, and then the others
abbrev pub invariant-loop-i : goal.invariant-loop-i
invariant-loop-i l = (advance : ℕ → ℤ) → AreAdvances advance l.fn.glyphs.fitted.items
    → l.line ≡ stepped l.fn.source.face.now.metrics (step_by l.fn.source.face.now.metrics l.fn.source.ppem advance) (unit_glyphs l.units)
    → l.made.items ++ stepped_units l.fn.source.face.now.metrics (step_by l.fn.source.face.now.metrics l.fn.source.ppem advance) (drop l.i l.units)
    ≡ stepped_units l.fn.source.face.now.metrics (step_by l.fn.source.face.now.metrics l.fn.source.ppem advance) l.units
