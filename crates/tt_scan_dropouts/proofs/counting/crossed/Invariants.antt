use Rattle.std.proofs.Common.{◌≡◌, ◌+◌, ◌*◌, ◌^◌, ◌≤◌, drop}
use Rattle.tt_scan_dropouts.specs.Counted.{rows_counted}
use Rattle.tt_scan_dropouts.specs.Dropouts.{crossed}
use Rattle.tt_scan_dropouts.proofs.counting.crossed.Given as goal

-- the crossings so far and those of the remaining edges are all crossings, of rows and of both
abbrev pub invariant-loop-edge : goal.invariant-loop-edge
invariant-loop-edge l = record {
  rows : l.rows + rows_counted (drop l.edge-index l.edges) ≡ rows_counted l.edges;
  both : l.both + crossed (drop l.edge-index l.edges) ≡ crossed l.edges;
  few_rows : l.rows ≤ 5 * 2 ^ 20 * l.edge-index;
  few : l.both ≤ 2 ^ 21 * l.edge-index;
}
