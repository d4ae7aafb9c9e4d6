use Rattle.std.proofs.Common.{ℕ, ◌+◌, ◌<◌, get_or}
use Rattle.tt_scan.specs.Contours.{Meets}
use Rattle.tt_scan_edges.specs.declared.edge.Edge.{Edge}
use Rattle.tt_scan_dropouts.proofs.closed.is_closed.Given as goal

-- the edges so far lead each to the next
abbrev pub invariant-loop-i : goal.invariant-loop-i
invariant-loop-i l = (k : ℕ) (d : Edge) → k + 1 < l.i → Meets (get_or l.edges k d) (get_or l.edges (k + 1) d)
