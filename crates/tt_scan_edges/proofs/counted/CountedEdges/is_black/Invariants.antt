use Rattle.std.proofs.Common.{◌≡◌, ◌+◌, ◌≤◌, length, take, unsigned_abs, false}
use Rattle.tt_scan_edges.specs.Winding.{winding, lies_on_one, column_x}
use Rattle.tt_scan_edges.proofs.counted.CountedEdges.is_black.Given as goal

-- no edge so far goes through the centre, and the winding of these edges is the sum
abbrev pub invariant-loop-i : goal.invariant-loop-i
invariant-loop-i l = record {
  end : l.i-end ≡ length l.fn.self.edges;
  kept : l.self ≡ record l.fn.self { crosses = l.fn.self.crosses + l.i };
  clear : lies_on_one (take l.i l.fn.self.edges) (column_x l.at.frame.margin l.c) l.at.y ≡ false;
  winding : l.winding ≡ winding (take l.i l.fn.self.edges) (column_x l.at.frame.margin l.c) l.at.y;
  small : unsigned_abs l.winding ≤ l.i;
}
