use Rattle.std.proofs.Common.{◌≡◌, ◌<◌, ℕ, All, map}
use Rattle.tt_cmap.specs.Maps.{glyph_of_unit}
use Rattle.tt_metrics.specs.Metrics.{advance_of, glyphs_of}
use Rattle.tt_c_instances.proofs.mapping.table_units.Given as goal

-- the glyphs of the units so far
abbrev pub invariant-loop-unit : goal.invariant-loop-unit
invariant-loop-unit l = record {
  glyphs : l.glyphs.items ≡ map (λ u. (glyph_of_unit l.fn.face.cmap u, advance_of l.fn.face.metrics (glyph_of_unit l.fn.face.cmap u))) l.yielded;
  known : All (λ (g : ℕ × ℕ). g.0 < glyphs_of l.fn.face.metrics) l.glyphs.items;
}
