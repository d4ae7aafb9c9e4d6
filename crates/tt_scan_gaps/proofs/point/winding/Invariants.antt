use Rattle.std.proofs.Common.{◌≡◌, ◌≤◌, take}
use Rattle.std.specs.Prelude.{unsigned_abs}
use Rattle.tt_scan_edges.specs.Winding as is
use Rattle.tt_scan_gaps.proofs.point.winding.Given as goal

-- the winding of the edges so far round the point
abbrev pub invariant-loop-edge : goal.invariant-loop-edge
invariant-loop-edge l = record {
  sum : l.winding ≡ is.winding (take l.edge-index l.edges) l.x l.y;
  small : unsigned_abs l.winding ≤ l.edge-index;
}
