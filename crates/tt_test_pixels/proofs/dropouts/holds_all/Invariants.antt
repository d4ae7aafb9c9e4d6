use Rattle.std.proofs.Common.{ℕ, ◌<◌, get_or}
use Rattle.tt_scan_edges.specs.declared.edge.Edge.{Edge}
use Rattle.tt_scan_gaps.specs.Boxes.{EdgeWithin}
use Rattle.tt_test_pixels.proofs.dropouts.holds_all.Given as goal

-- the box holds the edges so far
abbrev pub invariant-loop-edge : goal.invariant-loop-edge
invariant-loop-edge l = (k : ℕ) (d : Edge) → k < l.edge-index
    → EdgeWithin l.extents.across.low l.extents.across.high l.extents.up.low l.extents.up.high (get_or l.edges k d)
