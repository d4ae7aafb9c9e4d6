use Rattle.std.proofs.Common.{◌≡◌, ◌+◌, filter, length, take, drop, vec_capacity}
use Rattle.tt_scan_edges.specs.Left.{IsLeftBy}
use Rattle.tt_scan.specs.EdgeTable.{AreWalked, edges_of, meets_row}
use Rattle.tt_scan.proofs.collect.visit_begun.Given as goal

-- the marks and spans of the entries so far are added, and those that continue are walked
abbrev pub invariant-loop-next : goal.invariant-loop-next
invariant-loop-next l = record {
  walked : AreWalked l.fn.edges.edges l.at.frame l.at.r l.entries l.next l.walks.items;
  left : IsLeftBy (edges_of l.fn.edges.edges (filter (meets_row l.at.r) (take l.next l.entries))) l.at.frame.margin l.at.y l.fn.left.most l.left;
  edges : l.edges ≡ record l.fn.edges { crosses = l.edges.crosses };
  count : l.edges.crosses + length (filter (meets_row l.at.r) (drop l.next l.entries))
      ≡ l.fn.edges.crosses + length (filter (meets_row l.at.r) (drop l.from l.entries));
  walk_capacity : vec_capacity l.walks ≡ vec_capacity l.fn.walks;
}
