use Rattle.std.proofs.Common.{◌≡◌, drop}
use Rattle.std.specs.List.{list_any}
use Rattle.tt_label_rows.proofs.rows.breaks.Given as goal

-- one of all rows does where one of the remaining does
abbrev pub invariant-loop-row : goal.invariant-loop-row
invariant-loop-row l = list_any (λ r. r.broken) (drop l.row-index l.rows) ≡ list_any (λ r. r.broken) l.rows
