use Rattle.std.proofs.Common.{◌≡◌, ◌*◌, ◌+ℤ◌, ◌++◌, length, map, pos}
use Rattle.std.specs.Vec.Iter.{into_iter_items, into_iter_len}
use Rattle.tt_line.specs.Labels.{lines_placed}
use Rattle.tt_line.specs.Outcome.{placement_of}
use Rattle.tt_line.proofs.lines.lay_below.Given as goal

-- the lines so far, and then those that are left, are the lines
abbrev pub invariant-loop-steps : goal.invariant-loop-steps
invariant-loop-steps l = record {
  all : l.yielded ++ into_iter_items l.steps-iterator ≡ l.fn.lines.items;
  count : into_iter_len l.steps-iterator ≡ length (into_iter_items l.steps-iterator);
  below : l.below ≡ pos (length l.yielded * l.step) +ℤ l.rise;
  placed : map placement_of l.made.items ++ lines_placed l.extent l.align l.inner l.step l.below (map (λ v. v.items) (into_iter_items l.steps-iterator))
      ≡ lines_placed l.extent l.align l.inner l.step l.rise (map (λ v. v.items) l.fn.lines.items);
}
