-- No part of the standard: the box of an outline's points, on the curve and off it, in 1/8192 pixel. It holds all edges,
-- since a quadratic lies in the hull of its points.
use Rattle.std.specs.Prelude.{◌≡◌, refl, ℕ, Bool, true, false, ℤ, pos, negsuc, ◌+ℤ◌, ◌*ℤ◌, List, [], ◌∷◌, map}
use Rattle.std.specs.Int.{int_max, int_min}
use Rattle.tt_scan_gaps.specs.Boxes.{HoldsEdges}
use Rattle.tt_scan_gaps.specs.declared.extent.Extent.{Extent}
use Rattle.tt_scan_gaps.specs.declared.extent.Extents.{Extents}
use Rattle.tt_arc.specs.declared.point.PlacedPoint.{PlacedPoint}
use Rattle.tt_arc.specs.declared.quadratic.EdgeEnd.{EdgeEnd}
use Rattle.tt_arc.specs.declared.rule.ChordRule.{ChordRule}
use Rattle.tt_arc.specs.Chords.{chord_edges, edge_end_of, moved}

-- an extent with one more place, and a box with one more point
abbrev pub extent_with : ℤ → Extent → Extent
extent_with v e = record { low = int_min e.low v; high = int_max e.high v }

abbrev pub box_with : EdgeEnd → Extents → Extents
box_with s b = record { across = extent_with s.x b.across; up = extent_with s.y b.up }

-- the box of a point
abbrev pub box_at : EdgeEnd → Extents
box_at s = record { across = record { low = s.x; high = s.x }; up = record { low = s.y; high = s.y } }

abbrev pub box_from : Extents → List PlacedPoint → Extents
box_from b [] = b
box_from b (p ∷ ps) = box_from (box_with (edge_end_of p) b) ps

-- the box of all points; without points, that of a place at 0
abbrev pub box_of : List PlacedPoint → Extents
box_of [] = box_at (record { x = pos 0; y = pos 0 })
box_of (p ∷ ps) = box_from (box_at (edge_end_of p)) ps

-- the box of an outline moved by dx and dy
abbrev pub points_box : List (ℤ × ℤ × Bool) → ℤ → ℤ → Extents
points_box points dx dy = box_of (map (moved dx dy) points)

-- the box of an outline's points holds its edges
abbrev pub BoxHoldsEdges : Type 0
BoxHoldsEdges = (r : ChordRule) (points : List (ℤ × ℤ × Bool)) (ends : List ℕ) (dx dy : ℤ)
    → HoldsEdges (points_box points dx dy) (chord_edges r points ends dx dy)

-- a box moved to the right and up
abbrev pub extent_moved : ℤ → Extent → Extent
extent_moved d e = record { low = e.low +ℤ d; high = e.high +ℤ d }

-- an outline that has points and is moved has its box moved as far: by 128 places for each unit of 26.6
abbrev pub BoxMoved : Type 0
BoxMoved = (p : ℤ × ℤ × Bool) (points : List (ℤ × ℤ × Bool)) (dx dy x y : ℤ)
    → points_box (p ∷ points) (dx +ℤ x) (dy +ℤ y) ≡ record {
      across = extent_moved (pos 128 *ℤ x) (points_box (p ∷ points) dx dy).across;
      up = extent_moved (pos 128 *ℤ y) (points_box (p ∷ points) dx dy).up;
    }

-- worked values: the point off the curve counts, and so does a contour of one point
of_three_points : points_box ((pos 0, pos 0, true) ∷ (pos 10, pos 50, false) ∷ (pos 20, pos 0, true) ∷ []) (pos 0) (pos 0)
    ≡ record { across = record { low = pos 0; high = pos 2560 }; up = record { low = pos 0; high = pos 6400 } }
of_three_points = refl

moved_left_and_down : points_box ((pos 1, pos 0, true) ∷ (pos 0, pos 1, false) ∷ []) (negsuc 1) (negsuc 0)
    ≡ record { across = record { low = negsuc 255; high = negsuc 127 }; up = record { low = negsuc 127; high = pos 0 } }
moved_left_and_down = refl

of_no_point : points_box [] (pos 5) (pos 6)
    ≡ record { across = record { low = pos 0; high = pos 0 }; up = record { low = pos 0; high = pos 0 } }
of_no_point = refl
