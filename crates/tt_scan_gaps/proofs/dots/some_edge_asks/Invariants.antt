use Rattle.std.proofs.Common.{◌≡◌, drop}
use Rattle.std.specs.List.{flat_map}
use Rattle.tt_scan_gaps.specs.Gaps.{some_asks}
use Rattle.tt_scan_gaps.specs.Walk.{edge_marks}
use Rattle.tt_scan_gaps.proofs.dots.some_edge_asks.Given as goal

-- whether one of the remaining edges needs a pixel decides
abbrev pub invariant-loop-i : goal.invariant-loop-i
invariant-loop-i l = record {
  rest : some_asks (flat_map edge_marks (drop l.i l.edges)) ≡ some_asks (flat_map edge_marks l.edges);
}
