-- The edges of contours on a tape, contour by contour.
use Rattle.std.proofs.Common.{◌≡◌, ℕ, zero, suc, ◌+◌, ◌-◌, ◌<◌, ◌≤◌, List, [], ◌++◌, length, map, drop, All, refl, arith, append_assoc}
use Rattle.std.specs.List.{slice_index, slice_range, flat_map, range_with_len}
use Rattle.std.proofs.lemmas.List.{get_or-take, get_or-drop, length-take, length-drop, take-map, drop-map}
use Rattle.tt_scan_edges.specs.declared.edge.Edge.{Edge}
use Rattle.tt_arc.specs.declared.point.PlacedPoint.{PlacedPoint}
use Rattle.tt_arc.specs.declared.rule.ChordRule.{ChordRule}
use Rattle.tt_fit_outline.specs.Outline.{AreEnds}
use Rattle.tt_arc.specs.Chords.{contour_edges, contour_start, contour_at, outline_edges}

pub slice_of_map : {X : Type 0} (f : X → PlacedPoint) (ps : List X) (a b : ℕ) → slice_range (map f ps) a b
    ≡ map f (slice_range ps a b)
slice_of_map f ps a b = rw (drop-map f a ps, take-map f (b - a) (drop a ps)) refl

pub all_of_slice : {X : Type 0} (P : X → Type 0) (ps : List X) (a b : ℕ) → All P ps → All P (slice_range ps a b)
all_of_slice P ps a b all k d below =
    let shorter : k < b - a = omega (arith, length-take (b - a) (drop a ps)) in
    let within : a + k < length ps = omega (arith, length-take (b - a) (drop a ps), length-drop a ps) in
    rw (get_or-take (b - a) (drop a ps) k d shorter, get_or-drop a ps k d) (all (a + k) d within)

-- the edges of the contours from contour c on
abbrev pub edges_from : ChordRule → List PlacedPoint → List ℕ → ℕ → List Edge
edges_from r ps ends c = flat_map (λ c. contour_edges r (contour_at ps ends c)) (range_with_len c (length ends - c))

pub all_left : (r : ChordRule) (ps : List PlacedPoint) (ends : List ℕ) → edges_from r ps ends 0 ≡ outline_edges r ps ends
all_left r ps ends = let whole : length ends - 0 ≡ length ends = omega arith in rw whole refl

pub none_left : (r : ChordRule) (ps : List PlacedPoint) (ends : List ℕ) → edges_from r ps ends (length ends) ≡ []
none_left r ps ends = let none : length ends - length ends ≡ 0 = omega arith in rw none refl

pub one_contour_more : (r : ChordRule) {X : Type 0} (f : X → PlacedPoint) (ps : List X) (ends : List ℕ) (out new : List Edge) (from i to : ℕ)
    → i < length ends → from ≡ contour_start ends i → to ≡ slice_index ends i → new ≡ out ++ contour_edges r
    (map f (slice_range ps from to)) → new ++ edges_from r (map f ps) ends (i + 1) ≡ out ++ edges_from r (map f ps) ends i
one_contour_more r f ps ends out new from i to below is_from is_to is_new =
    let more : length ends - i ≡ suc (length ends - (i + 1)) = omega arith in
    rw (is_new, more, is_from, is_to, slice_of_map f ps (contour_start ends i) (slice_index ends i), append_assoc) refl

-- a contour begins no later than it ends
pub start_within : (n : ℕ) (ends : List ℕ) → AreEnds n ends → (c : ℕ) → c < length ends
    → contour_start ends c ≤ slice_index ends c
start_within n ends are zero below = omega arith
start_within n ends are (suc c) below = are.rising c (suc c) (omega arith) below
