use Rattle.std.proofs.Common.{◌≡◌, ◌<◌, ◌++◌, chars, map}
use Rattle.std.specs.Prelude.{All}
use Rattle.tt_cmap.specs.Maps.{units_by}
use Rattle.tt_label_rows.specs.Units.{unit_of}
use Rattle.tt_metrics.specs.Metrics.{glyphs_of}
use Rattle.tt_label_rows.proofs.units.line_units.Given as goal

-- the units so far
abbrev pub invariant-loop-unit : goal.invariant-loop-unit
invariant-loop-unit l = record {
  split : l.yielded ++ l.unit-iterator ≡ units_by l.fn.known.cmap (chars l.fn.line);
  units : l.made.items ≡ map (unit_of l.fn.known.cmap) l.yielded;
  same : l.known ≡ l.fn.known;
  known : All (λ u. u.glyph < glyphs_of l.fn.known.metrics) l.made.items;
}
