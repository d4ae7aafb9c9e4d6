-- No part of the standard: the ends of an outline's contours among its edges.
use Rattle.std.specs.Prelude.{◌≡◌, refl, ℕ, ◌+◌, pos, List, [], ◌∷◌, length}
use Rattle.tt_scan_edges.specs.declared.edge.Edge.{Edge}

-- the ends of contours in sequence, with `from` edges before the first
abbrev pub ends_from : ℕ → List (List Edge) → List ℕ
ends_from from [] = []
ends_from from (es ∷ ess) = (from + length es) ∷ ends_from (from + length es) ess

-- worked values: a contour of two edges, one of none, and one of one
edge : Edge
edge = record { ax = pos 0; ay = pos 0; bx = pos 1; by = pos 1 }

after_five : ends_from 5 ((edge ∷ edge ∷ []) ∷ [] ∷ (edge ∷ []) ∷ []) ≡ 7 ∷ 7 ∷ 8 ∷ []
unfolding edge
after_five = refl
