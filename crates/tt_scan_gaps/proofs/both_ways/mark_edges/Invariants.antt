use Rattle.std.proofs.Common.{◌≤◌, map, take}
use Rattle.tt_scan_gaps.specs.BothWays.{AreTold, is_black_seen}
use Rattle.tt_scan_gaps.specs.Seen.{seen_by}
use Rattle.tt_scan_gaps.specs.declared.seen.Over.TheVariants as over
use Rattle.tt_scan_gaps.proofs.both_ways.mark_edges.Given as goal

-- the tables have the gaps of the edges so far, and looks are only taken
abbrev pub invariant-loop-edge : goal.invariant-loop-edge
invariant-loop-edge l = record {
  rows : AreTold (is_black_seen over.Rows l.edges) (map (seen_by over.Rows) (take l.edge-index l.edges))
      l.row_rising l.row_falling;
  columns : AreTold (is_black_seen over.Columns l.edges) (map (seen_by over.Columns) (take l.edge-index l.edges))
      l.column_rising l.column_falling;
  fewer : l.looks ≤ l.fn.looks;
}
