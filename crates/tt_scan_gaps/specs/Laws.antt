-- Lemmas about the definitions: edges that are joined cross and touch the lines that they did, at the same places.
use Rattle.std.specs.Prelude.{◌≡◌, true, ℤ, List, map}
use Rattle.std.specs.List.{flat_map}
use Rattle.tt_scan_edges.specs.declared.edge.Edge.{Edge}
use Rattle.tt_scan_edges.specs.Joined.{joined}
use Rattle.tt_scan_gaps.specs.Boxes.{greatest_x, least_x}
use Rattle.tt_scan_gaps.specs.Crossings.{crossings, touches}
use Rattle.tt_scan_gaps.specs.Seen.{turned_round}
use Rattle.tt_scan_gaps.specs.Walk.{contour_marks}

-- the crossings of the edges of a contour, in their order, and the ends that touch lines
abbrev pub JoinedCrossAlike : Type 0
JoinedCrossAlike = (es : List Edge) → flat_map crossings (joined es) ≡ flat_map crossings es

abbrev pub JoinedTouchAlike : Type 0
JoinedTouchAlike = (es : List Edge) → flat_map touches (joined es) ≡ flat_map touches es

-- edges with x and y exchanged are joined alike, so the same holds of columns
abbrev pub JoinedTurnAlike : Type 0
JoinedTurnAlike = (es : List Edge) → joined (map turned_round es) ≡ map turned_round (joined es)

-- where stubs are drawn, the marks of a contour are the same
abbrev pub JoinedMarkAlike : Type 0
JoinedMarkAlike = (es : List Edge) → contour_marks true (joined es) ≡ contour_marks true es

-- the least and the greatest x are the same
abbrev pub JoinedReachAlike : Type 0
JoinedReachAlike = (x : ℤ) (es : List Edge) → (least_x x (joined es) ≡ least_x x es) × (greatest_x x (joined es) ≡ greatest_x x es)
