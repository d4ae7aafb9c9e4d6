use Rattle.std.proofs.Common.{◌≡◌, ◌++◌, length, map}
use Rattle.std.specs.Prelude.{All}
use Rattle.std.specs.Vec.Iter.{into_iter_items, into_iter_len}
use Rattle.tt_label.specs.Views.{placements_of}
use Rattle.tt_line.specs.Outcome.{placement_of}
use Rattle.tt_label.proofs.made.with_margin.Given as goal

-- the lines so far, and then those that are left, are the lines
abbrev pub invariant-loop-line : goal.invariant-loop-line
invariant-loop-line l = record {
  count : into_iter_len l.line-iterator ≡ length (into_iter_items l.line-iterator);
  lines : placements_of l.made.items ++ map placement_of (into_iter_items l.line-iterator) ≡ map placement_of l.fn.lines.items;
  margin : All (λ laid. laid.margin ≡ l.margin) l.made.items;
}
