use Rattle.std.proofs.Common.{◌≡◌, ◌^◌, ◌<◌, ◌≤◌, drop, map, take}
use Rattle.std.specs.Prelude.{All}
use Rattle.tt_line.specs.Labels.{widest, widest_after, width_of}
use Rattle.tt_label_rows.proofs.rows.widest.Given as goal

-- the rows so far are no wider
abbrev pub invariant-loop-row : goal.invariant-loop-row
invariant-loop-row l = record {
  rest : widest_after l.most (map (λ v. v.items) (drop l.row-index l.rows)) ≡ widest (map (λ v. v.items) l.rows);
  bound : l.most < 2 ^ 45;
  least : All (λ v. width_of v.items ≤ l.most) (take l.row-index l.rows);
}
