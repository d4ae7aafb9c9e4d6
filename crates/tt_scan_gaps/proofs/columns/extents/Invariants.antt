use Rattle.std.proofs.Common.{◌≡◌, drop, map}
use Rattle.tt_scan_gaps.specs.Boxes.{ExtentFits, greatest_x, least_x}
use Rattle.tt_scan_gaps.specs.Seen.{turned_round}
use Rattle.tt_scan_gaps.proofs.columns.extents.Given as goal

-- the remaining edges lead from the extents so far to the result
abbrev pub invariant-loop-edge : goal.invariant-loop-edge
invariant-loop-edge l = record {
  left : least_x l.across.low (drop l.edge-index l.edges) ≡ least_x l.fn.x l.edges;
  right : greatest_x l.across.high (drop l.edge-index l.edges) ≡ greatest_x l.fn.x l.edges;
  bottom : least_x l.up.low (map turned_round (drop l.edge-index l.edges))
      ≡ least_x l.fn.y (map turned_round l.edges);
  top : greatest_x l.up.high (map turned_round (drop l.edge-index l.edges))
      ≡ greatest_x l.fn.y (map turned_round l.edges);
  across : ExtentFits l.across;
  up : ExtentFits l.up;
}
