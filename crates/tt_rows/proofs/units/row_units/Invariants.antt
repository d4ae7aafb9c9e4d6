use Rattle.std.proofs.Common.{◌≡◌, ◌+◌, ◌++◌, chars, drop, length}
use Rattle.tt_cmap.specs.Maps.{units_by}
use Rattle.tt_rows.specs.Units.{row_units}
use Rattle.tt_rows.proofs.units.row_units.Given as goal

-- the units so far, and then those that are left
abbrev pub invariant-loop-unit : goal.invariant-loop-unit
invariant-loop-unit l = record {
  made : l.made.items ++ row_units l.unit-iterator (drop l.i l.plain) (drop l.i l.kerned)
      ≡ row_units (units_by l.fn.cmap (chars l.fn.text)) l.plain l.kerned;
  count : l.i + length l.unit-iterator ≡ length l.plain;
}
