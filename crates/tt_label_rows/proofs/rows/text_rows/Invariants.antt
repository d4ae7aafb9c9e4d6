use Rattle.std.proofs.Common.{◌≡◌, ◌≤◌, length, map, take}
use Rattle.std.specs.List.{sum_by}
use Rattle.std.specs.Prelude.{All}
use Rattle.tt_core.specs.Limits.{text_limit}
use Rattle.tt_rows.specs.Rows.{one_at_least}
use Rattle.tt_label_rows.specs.Rows.{breaks_word, text_rows}
use Rattle.tt_label_rows.proofs.rows.text_rows.Given as goal

-- the lines so far
abbrev pub invariant-loop-line : goal.invariant-loop-line
invariant-loop-line l = record {
  rows : map (λ v. v.items) l.made.rows.items ≡ text_rows l.room (map (λ v. v.items) (take l.line-index l.lines));
  broken : l.made.broken ≡ breaks_word l.room (map (λ v. v.items) (take l.line-index l.lines));
  count : length l.made.rows.items ≤ sum_by (λ v. one_at_least (length v.items)) (take l.line-index l.lines);
  short : All (λ v. length v.items ≤ text_limit) l.made.rows.items;
}
