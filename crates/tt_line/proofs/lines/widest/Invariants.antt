use Rattle.std.proofs.Common.{◌≡◌, ◌^◌, ◌<◌, ◌≤◌, drop, map, take}
use Rattle.std.specs.Prelude.{All}
use Rattle.tt_line.specs.Labels.{widest, widest_after, width_of}
use Rattle.tt_line.proofs.lines.widest.Given as goal

-- the lines so far are no wider
abbrev pub invariant-loop-line : goal.invariant-loop-line
invariant-loop-line l = record {
  rest : widest_after l.most (map (λ v. v.items) (drop l.line-index l.lines)) ≡ widest (map (λ v. v.items) l.lines);
  bound : l.most < 2 ^ 45;
  least : All (λ v. width_of v.items ≤ l.most) (take l.line-index l.lines);
}
