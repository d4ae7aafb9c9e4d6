use Rattle.std.proofs.Common.{◌≡◌, ◌*◌, ◌+ℤ◌, ◌++◌, length, map, pos}
use Rattle.std.specs.Vec.Iter.{into_iter_items, into_iter_len}
use Rattle.tt_label_rows.specs.Pictures.{rows_placed}
use Rattle.tt_line.specs.Outcome.{placement_of}
use Rattle.tt_label_rows.proofs.laying.lay_rows.Given as goal

-- the rows so far, and then those that are left, are the rows
abbrev pub invariant-loop-row : goal.invariant-loop-row
invariant-loop-row l = record {
  all : l.yielded ++ into_iter_items l.row-iterator ≡ l.fn.rows.items;
  count : into_iter_len l.row-iterator ≡ length (into_iter_items l.row-iterator);
  below : l.below ≡ pos (length l.yielded * l.step) +ℤ l.rise;
  placed : map placement_of l.made.items ++ rows_placed l.picture l.step l.below (map (λ v. v.items) (into_iter_items l.row-iterator))
      ≡ rows_placed l.picture l.step l.rise (map (λ v. v.items) l.fn.rows.items);
}
