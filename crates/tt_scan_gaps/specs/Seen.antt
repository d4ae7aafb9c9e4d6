-- No part of the standard: an edge as a pass over rows or columns sees it.
use Rattle.tt_scan_edges.specs.declared.edge.Edge.{Edge}
use Rattle.tt_scan_gaps.specs.declared.seen.Over.{Over}
use Rattle.tt_scan_gaps.specs.declared.seen.Over.TheVariants as over

-- x and y exchanged
abbrev pub turned_round : Edge → Edge
turned_round e = record { ax = e.ay; ay = e.ax; bx = e.by; by = e.bx }

-- an edge as a pass sees it
abbrev pub seen_by : Over → Edge → Edge
seen_by over.Rows e = e
seen_by over.Columns e = turned_round e
