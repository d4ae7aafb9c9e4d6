use Rattle.std.proofs.Common.{◌≡◌, Ok, drop, map, take}
use Rattle.tt_advances.specs.Found.{all_found, glyph_units}
use Rattle.tt_advances.specs.Lines.{advance_step}
use Rattle.tt_face.specs.Faces.{glyphs_in}
use Rattle.tt_label.proofs.UnitGlyphs.{its_units}
use Rattle.tt_label_rows.specs.Units.{all_glyphs, stepped_lines}
use Rattle.tt_label.proofs.finding.found_rows.Given as goal

-- the lines so far; the advances of the others are found next
abbrev pub invariant-loop-line : goal.invariant-loop-line
invariant-loop-line l = record {
  face : l.found.face ≡ l.fn.face;
  there : glyphs_in l.fn.face ≡ Ok l.found.tables;
  made : its_units l.made.items ≡ stepped_lines l.fn.face.metrics (advance_step l.fn.face l.ppem) (its_units (take l.line-index l.lines));
  tested : all_found (glyph_units l.fn.face.instance l.fn.face.metrics l.found.tables) (all_glyphs (its_units l.lines))
      ≡ all_found (glyph_units l.fn.face.instance l.fn.face.metrics l.found.tables) (all_glyphs (its_units (drop l.line-index l.lines)));
}
