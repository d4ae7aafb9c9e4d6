use Rattle.std.proofs.Common.{◌≡◌, map, take}
use Rattle.tt_scan_gaps.specs.Seen.{turned_round}
use Rattle.tt_scan_gaps.proofs.seen.all_turned_round.Given as goal

-- the edges so far are turned round
abbrev pub invariant-loop-edge : goal.invariant-loop-edge
invariant-loop-edge l = record {
  so_far : l.turned.items ≡ map turned_round (take l.edge-index l.edges);
}
