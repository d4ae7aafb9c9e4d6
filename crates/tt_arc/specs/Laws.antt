-- Lemmas about the edges of an outline, in terms of its single points.
use Rattle.std.specs.Prelude.{◌≡◌, ◌≢◌, ◌↔◌, ◌⊎◌, ℕ, ◌<◌, Bool, true, false, ◌&&◌, if◌then◌else◌, ℤ, pos, negsuc, ◌+ℤ◌, ◌*ℤ◌, int_lt, int_le, List, [], ◌∷◌, length, map, All, refl}
use Rattle.std.specs.List.{Any, flat_map}
use Rattle.tt_scan.specs.Contours.{IsClosed}
use Rattle.tt_scan_edges.specs.Joined.{line_at}
use Rattle.tt_scan_edges.specs.declared.edge.Edge.{Edge}
use Rattle.tt_scan_edges.specs.Winding.{side, lies_on, lies_on_one, winding, is_black, moved_edges}
use Rattle.tt_arc.specs.declared.point.PlacedPoint.{PlacedPoint}
use Rattle.tt_arc.specs.declared.rule.ChordRule.{ChordRule}
use Rattle.tt_arc.specs.declared.rule.ChordRule.TheVariants as rule
use Rattle.tt_arc.specs.Chords.{moved, edges_of, edges_at, contour_at, chord_edges, chord_contours}

-- contour c has two points or more, i is one of them, and (x, y) is on an edge of that point
pub record LiesOnEdgeOf (r : ChordRule) (ps : List PlacedPoint) (ends : List ℕ) (x y : ℤ) (c i : ℕ) : Type 0 where
  pub contour : c < length ends
  pub two : 1 < length (contour_at ps ends c)
  pub point : i < length (contour_at ps ends c)
  pub on : Any (λ e. lies_on e x y ≡ true) (edges_at r (contour_at ps ends c) i)

-- some point of some contour of a moved outline has an edge through the place
abbrev pub LiesOnOutline : ChordRule → List (ℤ × ℤ × Bool) → List ℕ → ℤ → ℤ → ℤ → ℤ → Type 0
LiesOnOutline r points ends dx dy x y = (c : ℕ) × (i : ℕ) × LiesOnEdgeOf r (map (moved dx dy) points) ends x y c i

-- where chords are joined, a place at the height of a row's centres; else any place
abbrev pub IsSeen : ChordRule → ℤ → Type 0
IsSeen rule.Eight y = Unit {0}
IsSeen rule.ByBend y = (k : ℤ) × (y ≡ line_at k)

-- a place is on the edges of an outline if and only if it is on an edge of a single point
abbrev pub OnByPoints : Type 0
OnByPoints = (r : ChordRule) (points : List (ℤ × ℤ × Bool)) (ends : List ℕ) (dx dy x y : ℤ) → IsSeen r y
    → (lies_on_one (chord_edges r points ends dx dy) x y ≡ true) ↔ LiesOnOutline r points ends dx dy x y

-- a place is black if and only if it is on such an edge, or the edges go round it
abbrev pub BlackByPoints : Type 0
BlackByPoints = (r : ChordRule) (points : List (ℤ × ℤ × Bool)) (ends : List ℕ) (dx dy x y : ℤ) → IsSeen r y
    → (is_black (chord_edges r points ends dx dy) x y ≡ true)
    ↔ (LiesOnOutline r points ends dx dy x y ⊎ (winding (chord_edges r points ends dx dy) x y ≢ pos 0))

-- the part of an edge in a place's winding, if the edges strictly right of the place count. It is the turn at the
-- place's height, with its sign changed
abbrev pub turned_right : Edge → ℤ → ℤ → ℤ
turned_right e x y =
    if int_le e.ay y && int_lt y e.by && int_lt (pos 0) (side e x y) then negsuc 0
    else (if int_le e.by y && int_lt y e.ay && int_lt (side e x y) (pos 0) then pos 1 else pos 0)

abbrev pub winding_right : List Edge → ℤ → ℤ → ℤ
winding_right [] x y = pos 0
winding_right (e ∷ es) x y = turned_right e x y +ℤ winding_right es x y

-- off the edges of an outline, the winding is equal from either side
abbrev pub SidesAgree : Type 0
SidesAgree = (r : ChordRule) (points : List (ℤ × ℤ × Bool)) (ends : List ℕ) (dx dy x y : ℤ)
    → lies_on_one (chord_edges r points ends dx dy) x y ≡ false
    → winding (chord_edges r points ends dx dy) x y ≡ winding_right (chord_edges r points ends dx dy) x y

-- moving an outline k pixels to the right moves its edges as far, joined or not
abbrev pub OutlineMoved : Type 0
OutlineMoved = (r : ChordRule) (points : List (ℤ × ℤ × Bool)) (ends : List ℕ) (dx dy k : ℤ)
    → chord_edges r points ends (dx +ℤ pos 64 *ℤ k) dy ≡ moved_edges (pos 8192 *ℤ k) (chord_edges r points ends dx dy)

-- the edges of the contours, in sequence, are those of the outline
abbrev pub ContoursJoined : Type 0
ContoursJoined = (r : ChordRule) (points : List (ℤ × ℤ × Bool)) (ends : List ℕ) (dx dy : ℤ)
    → flat_map (λ es. es) (chord_contours r points ends dx dy) ≡ chord_edges r points ends dx dy

-- each contour is closed, whatever the points
abbrev pub ContoursAreClosed : Type 0
ContoursAreClosed = (r : ChordRule) (points : List (ℤ × ℤ × Bool)) (ends : List ℕ) (dx dy : ℤ)
    → All IsClosed (chord_contours r points ends dx dy)

-- moving an outline k pixels to the right moves the edges of each contour as far
abbrev pub ContoursMoved : Type 0
ContoursMoved = (r : ChordRule) (points : List (ℤ × ℤ × Bool)) (ends : List ℕ) (dx dy k : ℤ)
    → chord_contours r points ends (dx +ℤ pos 64 *ℤ k) dy
    ≡ map (moved_edges (pos 8192 *ℤ k)) (chord_contours r points ends dx dy)

-- an edge raised by d
abbrev pub raised_edge : ℤ → Edge → Edge
raised_edge d e = record { ax = e.ax; ay = e.ay +ℤ d; bx = e.bx; by = e.by +ℤ d }

-- raising an outline by k pixels raises the edges of each contour as far
abbrev pub ContoursRaised : Type 0
ContoursRaised = (r : ChordRule) (points : List (ℤ × ℤ × Bool)) (ends : List ℕ) (dx dy k : ℤ)
    → chord_contours r points ends dx (dy +ℤ pos 64 *ℤ k)
    ≡ map (map (raised_edge (pos 8192 *ℤ k))) (chord_contours r points ends dx dy)

-- worked values: inside a square whose left side goes upwards, and left of the square
square : List Edge
square =
    let points = (pos 0, pos 0, true) ∷ (pos 0, pos 2, true) ∷ (pos 2, pos 2, true) ∷ (pos 2, pos 0, true) ∷ [] in
    chord_edges rule.Eight points (4 ∷ []) (pos 0) (pos 0)

inside_from_the_right : winding_right square (pos 128) (pos 128) ≡ pos 1
unfolding square edges_of
inside_from_the_right = refl

left_of_it_from_the_right : winding_right square (negsuc 0) (pos 128) ≡ pos 0
unfolding square edges_of
left_of_it_from_the_right = refl
