use Rattle.std.proofs.Common.{◌≡◌, ◌+◌, ◌≤◌, ◌++◌, length, map, take}
use Rattle.std.specs.Prelude.{All}
use Rattle.tt_core.specs.Limits.{text_limit}
use Rattle.tt_label_rows.specs.Rows.{row_glyphs}
use Rattle.tt_label_rows.proofs.rows.push_rows.Given as goal

-- the rows so far
abbrev pub invariant-loop-row : goal.invariant-loop-row
invariant-loop-row l = record {
  rows : map (λ v. v.items) l.made.rows.items ≡ map (λ v. v.items) l.fn.made.rows.items ++ map (row_glyphs l.units) (take l.row-index l.row-items);
  broken : l.made.broken ≡ l.fn.made.broken;
  count : length l.made.rows.items ≡ length l.fn.made.rows.items + l.row-index;
  short : All (λ v. length v.items ≤ text_limit) l.fn.made.rows.items → All (λ v. length v.items ≤ text_limit) l.made.rows.items;
}
