use Rattle.std.proofs.Common.{◌≡◌, ◌+◌, ◌*◌, ◌<◌, ◌^◌, ◌≤◌, length, sum, map, ◌++◌, chars, IfSome}
use Rattle.tt_cmap.specs.Maps.{glyph_of_unit, units_by}
use Rattle.tt_line.specs.Layout.{text_glyphs}
use Rattle.tt_line.specs.Steps.{linear_steps}
use Rattle.tt_line.specs.Sums.{with_last}
use Rattle.tt_metrics.specs.Metrics.{glyphs_of}
use Rattle.tt_line.proofs.sums.kerned_sum.Given as goal

-- the steps so far, and those of the last glyph and of the rest
abbrev pub invariant-loop-unit : goal.invariant-loop-unit
invariant-loop-unit l = record {
  split : l.yielded ++ l.unit-iterator ≡ units_by l.fn.known.cmap (chars l.fn.text);
  sum : l.sum + sum (linear_steps l.fn.known.metrics l.fn.known.ppem (with_last l.last (map (glyph_of_unit l.fn.known.cmap) l.unit-iterator)))
      ≡ sum (linear_steps l.fn.known.metrics l.fn.known.ppem (text_glyphs l.fn.known.cmap l.fn.text));
  known : IfSome l.last (λ g. g < glyphs_of l.fn.known.metrics);
  same : l.known ≡ l.fn.known;
  bound : l.sum ≤ length l.yielded * 2 ^ 25;
}
