use Rattle.std.proofs.Common.{◌≡◌, ◌<◌, All, map, ◌++◌, chars}
use Rattle.tt_cmap.specs.Maps.{glyph_of_unit, units_by}
use Rattle.tt_line.specs.Layout.{advance_in_pixels}
use Rattle.tt_metrics.specs.Metrics.{glyphs_of}
use Rattle.tt_line.proofs.steps.unit_advances.Given as goal

-- the units so far
abbrev pub invariant-loop-unit : goal.invariant-loop-unit
invariant-loop-unit l = record {
  split : l.yielded ++ l.unit-iterator ≡ units_by l.fn.known.cmap (chars l.fn.text);
  steps : l.glyphs.items ≡ map (λ g. (g, advance_in_pixels l.fn.known.metrics l.fn.known.ppem g)) (map (glyph_of_unit l.fn.known.cmap) l.yielded);
  same : l.known ≡ l.fn.known;
  known : All (λ p. p.0 < glyphs_of l.fn.known.metrics) l.glyphs.items;
}
