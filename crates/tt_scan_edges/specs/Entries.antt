-- No part of the standard: the entries of an edge table, which hold edges by their numbers.
use Rattle.std.specs.Prelude.{List}
use Rattle.tt_scan_edges.specs.declared.edge.Edge.{Edge}
use Rattle.tt_scan_edges.specs.declared.entry.Entry.{Entry}
use Rattle.tt_scan_edges.specs.Counted.{edge_at}

-- the edge of an entry, among the edges of a tape
abbrev pub edge_of : List Edge → Entry → Edge
edge_of es m = edge_at es m.edge
