use Rattle.std.proofs.Common.{◌≡◌, ℕ, length}
use Rattle.std.specs.Prelude.{All}
use Rattle.std.specs.Vec.Iter.{into_iter_items, into_iter_len}
use Rattle.tt_core.specs.Outcomes.{after_each}
use Rattle.tt_label.specs.Label.{grown_lines}
use Rattle.tt_label.specs.Views.{placements_of}
use Rattle.tt_strike.specs.Grown.{grown}
use Rattle.tt_label.proofs.growing.grown_lines.Given as goal

-- the lines so far, and then those that are left
abbrev pub invariant-loop-laid : goal.invariant-loop-laid
invariant-loop-laid l = record {
  count : into_iter_len l.laid-iterator ≡ length (into_iter_items l.laid-iterator);
  lines : after_each (λ line. grown line l.ink) (placements_of (into_iter_items l.laid-iterator)) (placements_of l.made.items)
      ≡ grown_lines (placements_of l.fn.lines.items) l.ink;
  left : (margin : ℕ) → All (λ laid. laid.margin ≡ margin) l.fn.lines.items → All (λ laid. laid.margin ≡ margin) (into_iter_items l.laid-iterator);
  margin : (margin : ℕ) → All (λ laid. laid.margin ≡ margin) l.fn.lines.items → All (λ laid. laid.margin ≡ margin) l.made.items;
}
