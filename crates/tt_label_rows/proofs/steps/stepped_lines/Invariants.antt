use Rattle.std.proofs.Common.{◌≡◌, map, take}
use Rattle.tt_label_rows.specs.Units.{stepped_lines}
use Rattle.tt_line.specs.Steps.{step_in_pixels}
use Rattle.tt_label_rows.proofs.steps.stepped_lines.Given as goal

-- the lines so far
abbrev pub invariant-loop-line : goal.invariant-loop-line
invariant-loop-line l = map (λ v. v.items) l.made.items
    ≡ stepped_lines l.metrics (step_in_pixels l.metrics l.ppem) (map (λ v. v.items) (take l.line-index l.lines))
