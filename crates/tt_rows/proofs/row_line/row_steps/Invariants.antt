use Rattle.std.proofs.Common.{◌≡◌, ◌++◌, drop}
use Rattle.tt_rows.specs.Widths.{stepped_row}
use Rattle.tt_rows.proofs.row_line.row_steps.Given as goal

-- the glyphs so far, and then the others
abbrev pub invariant-loop-i : goal.invariant-loop-i
invariant-loop-i l = l.line.items ++ stepped_row (drop l.i l.units) ≡ stepped_row l.units
