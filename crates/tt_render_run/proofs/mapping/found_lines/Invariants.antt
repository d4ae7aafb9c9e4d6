use Rattle.std.proofs.Common.{◌≡◌, ◌++◌, Ok, chars, flat_map, map}
use Rattle.tt_advances.specs.Found.{all_found, glyph_units}
use Rattle.tt_cmap.specs.Maps.{glyph_of_unit, units_by}
use Rattle.tt_face.specs.Faces.{glyphs_in}
use Rattle.tt_line.specs.Layout.{text_glyphs}
use Rattle.tt_render_run.specs.MapLines.{map_line}
use Rattle.tt_render_run.proofs.mapping.found_lines.Given as goal

-- the lines of the units so far, whose advances are found
abbrev pub invariant-loop-unit : goal.invariant-loop-unit
invariant-loop-unit l = record {
  split : l.yielded ++ l.unit-iterator ≡ units_by l.fn.face.cmap (chars l.fn.text);
  lines : l.lines.items ≡ flat_map (map_line l.fn.face) l.yielded;
  same : l.known ≡ l.fn.face.cmap;
  face : l.found.face ≡ l.fn.face;
  there : glyphs_in l.fn.face ≡ Ok l.found.tables;
  tested : all_found (glyph_units l.fn.face.instance l.fn.face.metrics l.found.tables) (text_glyphs l.fn.face.cmap l.fn.text)
      ≡ all_found (glyph_units l.fn.face.instance l.fn.face.metrics l.found.tables) (map (glyph_of_unit l.fn.face.cmap) l.unit-iterator);
}
