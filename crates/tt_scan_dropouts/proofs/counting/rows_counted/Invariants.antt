use Rattle.std.proofs.Common.{◌≡◌, ◌+◌, ◌*◌, ◌^◌, ◌≤◌, drop}
use Rattle.tt_scan_dropouts.specs.Counted.{rows_counted}
use Rattle.tt_scan_dropouts.proofs.counting.rows_counted.Given as goal

-- the rows so far and those of the remaining edges are all rows
abbrev pub invariant-loop-edge : goal.invariant-loop-edge
invariant-loop-edge l = record {
  sum : l.all + rows_counted (drop l.edge-index l.edges) ≡ rows_counted l.edges;
  small : l.all ≤ 5 * 2 ^ 20 * l.edge-index;
}
