use Rattle.std.proofs.Common.{◌*◌, ◌≤◌}
use Rattle.tt_arc.proofs.outline.most_edges.Given as goal

abbrev pub invariant-loop-point : goal.invariant-loop-point
invariant-loop-point l = record { few : l.most ≤ 8 * l.point-index }
