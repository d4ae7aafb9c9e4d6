use Rattle.std.proofs.Common.{◌≡◌, drop, get_or, map}
use Rattle.std.specs.Prelude.{pos}
use Rattle.tt_scan_gaps.specs.Boxes.{ExtentFits, greatest_x, least_x}
use Rattle.tt_scan_gaps.specs.Seen.{turned_round}
use Rattle.tt_scan_edges.specs.declared.edge.Edge.{Edge}
use Rattle.tt_scan_gaps.proofs.dots.dot_box.Given as goal

abbrev pub none : Edge
none = record { ax = pos 0; ay = pos 0; bx = pos 0; by = pos 0 }

-- the remaining edges lead from the extents so far to the box
abbrev pub invariant-loop-edge : goal.invariant-loop-edge
invariant-loop-edge l = record {
  left : least_x l.across.low (drop l.edge-index l.edges) ≡ least_x (get_or l.edges 0 none).ax l.edges;
  right : greatest_x l.across.high (drop l.edge-index l.edges) ≡ greatest_x (get_or l.edges 0 none).ax l.edges;
  bottom : least_x l.up.low (map turned_round (drop l.edge-index l.edges))
      ≡ least_x (get_or l.edges 0 none).ay (map turned_round l.edges);
  top : greatest_x l.up.high (map turned_round (drop l.edge-index l.edges))
      ≡ greatest_x (get_or l.edges 0 none).ay (map turned_round l.edges);
  across : ExtentFits l.across;
  up : ExtentFits l.up;
}
