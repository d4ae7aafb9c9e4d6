use Rattle.std.proofs.Common.{◌≡◌, ◌*◌, ◌^◌, ◌≤◌, length, sum, map, ◌++◌, chars}
use Rattle.tt_cmap.specs.Maps.{glyph_of_unit, units_by}
use Rattle.tt_line.specs.Layout.{advance_in_pixels}
use Rattle.tt_line.proofs.sums.sum_of_advances.Given as goal

-- the advances so far
abbrev pub invariant-loop-unit : goal.invariant-loop-unit
invariant-loop-unit l = record {
  split : l.yielded ++ l.unit-iterator ≡ units_by l.fn.known.cmap (chars l.fn.text);
  sum : l.sum ≡ sum (map (advance_in_pixels l.fn.known.metrics l.fn.known.ppem) (map (glyph_of_unit l.fn.known.cmap) l.yielded));
  same : l.known ≡ l.fn.known;
  bound : l.sum ≤ length l.yielded * 2 ^ 25;
}
