use Rattle.std.proofs.Common.{◌≡◌, ◌+◌, ◌<◌, ◌≤◌, IsUtf8, chars, length, map}
use Rattle.std.specs.List.{flat_map, sum_by}
use Rattle.std.specs.Prelude.{All}
use Rattle.std.specs.Str.Iter.{lines_rest}
use Rattle.tt_rows.specs.Rows.{one_at_least}
use Rattle.tt_label_rows.specs.Units.{line_units}
use Rattle.tt_metrics.specs.Metrics.{glyphs_of}
use Rattle.tt_label_rows.proofs.units.text_units.Given as goal

-- the lines so far
abbrev pub invariant-loop-line : goal.invariant-loop-line
invariant-loop-line l = record {
  units : map (λ v. v.items) l.lines.items ≡ map (line_units l.fn.known.cmap) (map (λ x. x.now) l.yielded);
  same : l.known ≡ l.fn.known;
  known : All (λ v. All (λ u. u.glyph < glyphs_of l.fn.known.metrics) v.items) l.lines.items;
  utf8 : IsUtf8 (lines_rest l.line-iterator);
  few : length (flat_map (λ v. v.items) l.lines.items) + length (chars (lines_rest l.line-iterator)) ≤ length (chars l.fn.text);
  rows : sum_by (λ v. one_at_least (length v.items)) l.lines.items + length (chars (lines_rest l.line-iterator)) ≤ length (chars l.fn.text);
}
