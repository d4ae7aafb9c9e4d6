-- No part of the standard: the edges of a tape, the count of their crossings, and the number of edges that memory
-- suffices for.
use Rattle.std.specs.Prelude.{ℕ, pos, List, get_or}
use Rattle.tt_scan_edges.specs.declared.edge.Edge.{Edge}

pub record CountedEdges : Type 0 where
  pub edges : List Edge
  pub crosses : ℕ
  pub capacity : ℕ

-- edge i; past the last edge, an edge at 0
abbrev pub edge_at : List Edge → ℕ → Edge
edge_at edges i = get_or edges i (record { ax = pos 0; ay = pos 0; bx = pos 0; by = pos 0 })
