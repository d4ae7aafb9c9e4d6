-- No part of the standard: the edges of an outline's contours, which lie one after the other.
use Rattle.std.specs.Prelude.{◌≡◌, ℕ, ◌≤◌, List, [], ◌∷◌}
use Rattle.std.specs.List.{slice_range}
use Rattle.tt_scan_edges.specs.declared.edge.Edge.{Edge}

-- the contours of an outline: each ends before the edge of a number in the list
abbrev pub contours_from : ℕ → List Edge → List ℕ → List (List Edge)
contours_from from es [] = []
contours_from from es (end ∷ ends) = slice_range es from end ∷ contours_from end es ends

abbrev pub contours_at : List Edge → List ℕ → List (List Edge)
contours_at es ends = contours_from 0 es ends

-- the ends of contours among a number of edges: each is no less than the end before it, and the last is the number of
-- edges
abbrev pub AreEndsFrom : ℕ → ℕ → List ℕ → Type 0
AreEndsFrom from count [] = from ≡ count
AreEndsFrom from count (end ∷ ends) = (from ≤ end) × AreEndsFrom end count ends

abbrev pub AreEnds : ℕ → List ℕ → Type 0
AreEnds count ends = AreEndsFrom 0 count ends

-- one edge ends where another begins
abbrev pub Meets : Edge → Edge → Type 0
Meets e f = (e.bx ≡ f.ax) × (e.by ≡ f.ay)

-- a chain of edges: each begins where the edge before it ends, and the last ends where a first edge begins
abbrev pub GoesRound : Edge → List Edge → Edge → Type 0
GoesRound e [] first = Meets e first
GoesRound e (f ∷ es) first = Meets e f × GoesRound f es first

-- a contour is closed where its edges lead from one to the next, and from the last to the first
abbrev pub IsClosed : List Edge → Type 0
IsClosed [] = Unit {0}
IsClosed (e ∷ es) = GoesRound e es e
