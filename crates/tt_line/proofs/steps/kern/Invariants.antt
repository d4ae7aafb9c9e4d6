use Rattle.std.proofs.Common.{◌≡◌}
use Rattle.tt_line.specs.Steps.{step_in_pixels}
use Rattle.tt_line.proofs.Kerned.{partly}
use Rattle.tt_line.proofs.steps.kern.Given as goal

-- the glyphs so far have their steps
abbrev pub invariant-loop-i : goal.invariant-loop-i
invariant-loop-i l = record {
  kerned : l.line ≡ partly l.fn.metrics (step_in_pixels l.fn.metrics l.fn.ppem) l.i l.fn.line;
}
