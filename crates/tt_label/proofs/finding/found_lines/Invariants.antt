use Rattle.std.proofs.Common.{◌≡◌, ◌<◌, ◌++◌, Ok, length, map}
use Rattle.std.specs.Prelude.{All}
use Rattle.std.specs.Vec.Iter.{into_iter_items, into_iter_len}
use Rattle.tt_advances.specs.Found.{all_found, glyph_units}
use Rattle.tt_advances.specs.Lines.{advance_step}
use Rattle.tt_face.specs.Faces.{glyphs_in}
use Rattle.tt_label.proofs.FoundLines.{items_of}
use Rattle.tt_label.specs.Fitted.{glyphs_in as line_glyphs, with_steps}
use Rattle.tt_metrics.specs.Metrics.{glyphs_of}
use Rattle.tt_label.proofs.finding.found_lines.Given as goal

-- the lines so far, and then those that are left, whose advances are found next
abbrev pub invariant-loop-line : goal.invariant-loop-line
invariant-loop-line l = record {
  count : into_iter_len l.line-iterator ≡ length (into_iter_items l.line-iterator);
  known : All (λ v. All (λ g. g.0 < glyphs_of l.fn.face.metrics) v.items) (into_iter_items l.line-iterator);
  face : l.found.face ≡ l.fn.face;
  there : glyphs_in l.fn.face ≡ Ok l.found.tables;
  steps : items_of l.made.items ++ with_steps l.fn.face.metrics (advance_step l.fn.face l.ppem) (items_of (into_iter_items l.line-iterator))
      ≡ with_steps l.fn.face.metrics (advance_step l.fn.face l.ppem) (items_of l.fn.lines.items);
  tested : all_found (glyph_units l.fn.face.instance l.fn.face.metrics l.found.tables) (line_glyphs (items_of l.fn.lines.items))
      ≡ all_found (glyph_units l.fn.face.instance l.fn.face.metrics l.found.tables) (line_glyphs (items_of (into_iter_items l.line-iterator)));
}
