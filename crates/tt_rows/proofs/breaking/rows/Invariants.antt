use Rattle.std.proofs.Common.{◌≤◌, ◌-◌, length}
use Rattle.std.specs.Prelude.{All}
use Rattle.tt_rows.proofs.RowLoops.{IsLeft}
use Rattle.tt_rows.proofs.breaking.rows.Given as goal

-- the rows so far, and then the others
abbrev pub invariant-loop-from : goal.invariant-loop-from
invariant-loop-from l = record {
  left : IsLeft l.line l.room l.made.items l.from;
  within : All (λ r. (r.from ≤ r.until) × (r.until ≤ length l.line)) l.made.items;
  count : length l.made.items ≤ l.from;
  inside : l.from ≤ length l.line;
}

abbrev pub decreases-loop-from : goal.decreases-loop-from
decreases-loop-from l = length l.line - l.from
