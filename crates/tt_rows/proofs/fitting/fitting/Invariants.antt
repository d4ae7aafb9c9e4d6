use Rattle.std.proofs.Common.{◌≡◌, ◌+◌, ◌*◌, ◌≤◌, ◌^◌, drop}
use Rattle.tt_rows.specs.Rows.{fitting, fitting_from}
use Rattle.tt_rows.proofs.fitting.fitting.Given as goal

-- the units so far fit, and then those that fit of the others
abbrev pub invariant-loop-i : goal.invariant-loop-i
invariant-loop-i l = record {
  walk : l.i + fitting_from l.room l.pen (drop l.i l.units) ≡ fitting l.room l.units;
  pen : l.pen ≤ l.i * 2 ^ 32;
}
