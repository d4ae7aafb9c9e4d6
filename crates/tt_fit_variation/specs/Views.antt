-- The definitions' views of the code's values.
use Rattle.std.specs.Prelude.{List, map}
use Rattle.tt_deltas.specs.Glyphs.{VariedPoints}
use Rattle.tt_fit_variation.specs.declared.end.EndDeltas as deltas
use Rattle.tt_fit_variation.specs.declared.varied_glyph.GlyphDeltas as glyph
use Rattle.tt_fit_variation.specs.declared.moved_point.InstancePoint as point
use Rattle.tt_fit_variation.specs.Ends.{EndDeltas}
use Rattle.tt_fit_variation.specs.Moved.{InstancePoint}

abbrev pub point_view : point.InstancePoint → InstancePoint
point_view p = record { unit = p.unit; place = p.place }

abbrev pub points_view : List point.InstancePoint → List InstancePoint
points_view ps = map point_view ps

abbrev pub deltas_view : deltas.EndDeltas → EndDeltas
deltas_view d = record { left = d.left; right = d.right; ascent = d.ascent; descent = d.descent }

abbrev pub glyph_view : glyph.GlyphDeltas → VariedPoints
glyph_view g = record { xs = g.xs.items; ys = g.ys.items }
