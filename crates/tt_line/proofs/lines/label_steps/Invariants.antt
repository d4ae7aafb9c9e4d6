use Rattle.std.proofs.Common.{◌≡◌, ◌+◌, ◌<◌, ◌≤◌, IsUtf8, chars, length, map}
use Rattle.std.specs.List.{flat_map}
use Rattle.std.specs.Prelude.{All}
use Rattle.std.specs.Str.Iter.{lines_rest}
use Rattle.tt_line.specs.Layout.{text_glyphs}
use Rattle.tt_line.specs.Steps.{linear_line}
use Rattle.tt_metrics.specs.Metrics.{glyphs_of}
use Rattle.tt_line.proofs.lines.label_steps.Given as goal

-- the lines so far
abbrev pub invariant-loop-line : goal.invariant-loop-line
invariant-loop-line l = record {
  steps : map (λ v. v.items) l.lines.items
      ≡ map (λ line. linear_line l.fn.known.metrics l.fn.known.ppem (text_glyphs l.fn.known.cmap line)) (map (λ x. x.now) l.yielded);
  same : l.known ≡ l.fn.known;
  known : All (λ v. All (λ p. p.0 < glyphs_of l.fn.known.metrics) v.items) l.lines.items;
  utf8 : IsUtf8 (lines_rest l.line-iterator);
  few : length (flat_map (λ v. v.items) l.lines.items) + length (chars (lines_rest l.line-iterator)) ≤ length (chars l.fn.text);
  count : length l.lines.items + length (chars (lines_rest l.line-iterator)) ≤ length (chars l.fn.text);
}
