-- Lemmas about the definitions: the box holds all black pixels of the plane, and no smaller box does.
use Rattle.std.specs.Prelude.{All, List}
use Rattle.tt_scan.specs.Contours.{IsClosed}
use Rattle.tt_scan_edges.specs.declared.edge.Edge.{Edge}
use Rattle.tt_scan_dropouts.specs.Dropouts.{edges_of, is_dropout, is_inked}
use Rattle.tt_scan_gaps.specs.Boxes.{HoldsEdges}
use Rattle.tt_scan_dropouts.specs.declared.boxed.BoxedRules.{BoxedRules}
use Rattle.tt_bitmap.specs.Inks.{IsInk}
use Rattle.tt_scan_ink.specs.Ink.{dropouts_ink, edges_ink}

-- where all contours are closed, their edges blacken nothing outside the box of the edges
abbrev pub EdgesInkHoldsAll : Type 0
EdgesInkHoldsAll = (contours : List (List Edge)) → All IsClosed contours
    → IsInk (is_inked contours) (edges_ink (edges_of contours))

-- no dropout lies outside the glyph's box, where the box holds the edges, whatever the contours
abbrev pub DropoutsInkHoldsAll : Type 0
DropoutsInkHoldsAll = (rules : BoxedRules) (contours : List (List Edge)) → HoldsEdges rules.extents (edges_of contours)
    → IsInk (is_dropout rules contours) (dropouts_ink rules contours)
