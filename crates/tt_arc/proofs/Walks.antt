-- The edges of points on a tape, point by point.
use Rattle.std.proofs.Common.{◌≡◌, ℕ, suc, ◌+◌, ◌-◌, ◌<◌, ◌≤◌, false, pos, List, [], ◌∷◌, ◌++◌, length, map, drop, get_or, refl, sym, ◌∙◌, arith, append-nil, length-drop, add-one, drop-cons}
use Rattle.std.specs.List.{flat_map, range_with_len}
use Rattle.std.proofs.lemmas.Bool.{lt-ltb}
use Rattle.std.proofs.lemmas.List.{get_or-map}
use Rattle.tt_scan_edges.specs.declared.edge.Edge.{Edge}
use Rattle.tt_arc.specs.declared.point.PlacedPoint.{PlacedPoint}
use Rattle.tt_arc.specs.declared.rule.ChordRule.{ChordRule}
use Rattle.tt_arc.specs.Chords.{edges_of, point_at, number_before, number_after, edges_at, contour_chords}

-- the edges of a point and of the points after it, with one more point before them and one following
abbrev pub edges_along : ChordRule → PlacedPoint → PlacedPoint → List PlacedPoint → PlacedPoint → List Edge
edges_along r before p [] following = edges_of r before p following
edges_along r before p (q ∷ ps) following = edges_of r before p q ++ edges_along r p q ps following

-- the last of a point and the points after it
abbrev pub last_of : PlacedPoint → List PlacedPoint → PlacedPoint
last_of p [] = p
last_of p (q ∷ ps) = last_of q ps

abbrev nowhere : PlacedPoint
nowhere = record { x = pos 0; y = pos 0; on = false }

after_last : (n i : ℕ) → i + 1 ≡ n → number_after n i ≡ 0
after_last n i is = grind (arith, is)

pub after_inner : (n i : ℕ) → i + 1 < n → number_after n i ≡ i + 1
after_inner n i below = grind (arith, below)

one_point : (r : ChordRule) (ps : List PlacedPoint) (k : ℕ) (before p after : PlacedPoint) → before ≡ point_at ps (number_before (length ps) k) → p
    ≡ point_at ps k → after ≡ point_at ps (number_after (length ps) k) → edges_at r ps k ≡ edges_of r before p after
one_point r ps k before p after is_before is_p is_after = rw (is_before, is_p, is_after) refl

-- the points from a number on, each with its neighbours, in the order of the code
along_is : (r : ChordRule) (all : List PlacedPoint) (k : ℕ) (before p : PlacedPoint) (ps : List PlacedPoint) (first : PlacedPoint) → before
    ≡ point_at all (number_before (length all) k) → first ≡ point_at all 0 → drop k all ≡ p ∷ ps
    → edges_along r before p ps first ≡ flat_map (edges_at r all) (range_with_len k (length (p ∷ ps)))
along_is r all k before p [] first is_before is_first from =
    let many : length (drop k all) ≡ 1 = rw from refl in
    let last : k + 1 ≡ length all = omega (arith, many, length-drop k all) in
    let whole = drop-cons all k nowhere (omega (arith, last)) in
    let here : p ≡ point_at all k = cc in
    let after : first ≡ point_at all (number_after (length all) k) = rw (after_last (length all) k last) is_first in
    rw (one_point r all k before p first is_before here after, append-nil) refl
along_is r all k before p (q ∷ ps) first is_before is_first from =
    let many : length (drop k all) ≡ suc (suc (length ps)) = rw from refl in
    let inner : k + 1 < length all = omega (arith, many, length-drop k all) in
    let whole = drop-cons all k nowhere (omega (arith, inner)) in
    let here : p ≡ point_at all k = cc in
    let following : drop (suc k) all ≡ q ∷ ps = cc in
    let next = drop-cons all (suc k) nowhere (omega (arith, inner)) in
    let there : q ≡ point_at all (k + 1) = rw add-one cc in
    let after : q ≡ point_at all (number_after (length all) k) = rw (after_inner (length all) k inner) there in
    let next_before : p ≡ point_at all (number_before (length all) (k + 1)) = rw add-one here in
    let next_from : drop (k + 1) all ≡ q ∷ ps = rw add-one following in
    let others = along_is r all (k + 1) p q ps first next_before is_first next_from in
    rw (one_point r all k before p q is_before here after, others) refl

last_at : (p : PlacedPoint) (ps : List PlacedPoint) → last_of p ps ≡ point_at (p ∷ ps) (length ps)
last_at p [] = refl
last_at p (q ∷ ps) = last_at q ps

pub of_two : (r : ChordRule) (ps : List PlacedPoint) → 1 < length ps → contour_chords r ps ≡ flat_map (edges_at r ps) (range_with_len 0 (length ps))
of_two r ps two = rw (lt-ltb 1 (length ps) two) refl

pub of_fewer : (r : ChordRule) (ps : List PlacedPoint) → length ps < 2 → contour_chords r ps ≡ []
of_fewer r [] few = refl
of_fewer r (p ∷ []) few = refl
of_fewer r (p ∷ q ∷ ps) few = absurd (omega arith)

pub contour_whole : (r : ChordRule) (p q : PlacedPoint) (ps : List PlacedPoint) → edges_along r (last_of q ps) p (q ∷ ps) p ≡ contour_chords r (p ∷ q ∷ ps)
contour_whole r p q ps =
    let less : length (p ∷ q ∷ ps) - 1 ≡ suc (length ps) = omega arith in
    let last : last_of q ps ≡ point_at (p ∷ q ∷ ps) (number_before (length (p ∷ q ∷ ps)) 0) = rw less (last_at q ps) in
    along_is r (p ∷ q ∷ ps) 0 (last_of q ps) p (q ∷ ps) p last refl refl ∙ sym (of_two r (p ∷ q ∷ ps) (omega arith))

-- the edges of the points from point i on
abbrev pub edges_onward : ChordRule → List PlacedPoint → ℕ → List Edge
edges_onward r ps i = flat_map (edges_at r ps) (range_with_len i (length ps - i))

pub all_onward : (r : ChordRule) (ps : List PlacedPoint) → 1 < length ps → edges_onward r ps 0 ≡ contour_chords r ps
all_onward r ps two = let whole : length ps - 0 ≡ length ps = omega arith in rw whole (sym (of_two r ps two))

pub none_onward : (r : ChordRule) (ps : List PlacedPoint) (i : ℕ) → length ps ≤ i → edges_onward r ps i ≡ []
none_onward r ps i past = let none : length ps - i ≡ 0 = omega arith in rw none refl

-- the edges of one point, before those of the points after it
pub one_point_first : (r : ChordRule) (ps : List PlacedPoint) (i : ℕ) (before p after : PlacedPoint) → i < length ps → before
    ≡ point_at ps (number_before (length ps) i) → p ≡ point_at ps i → after ≡ point_at ps (number_after (length ps) i)
    → edges_onward r ps i ≡ edges_of r before p after ++ edges_onward r ps (i + 1)
one_point_first r ps i before p after below is_before is_p is_after =
    let more : length ps - i ≡ suc (length ps - (i + 1)) = omega arith in
    rw (more, ← one_point r ps i before p after is_before is_p is_after) refl

-- a point of a contour after its move
pub point_is : {X : Type 0} (f : X → PlacedPoint) (xs : List X) (i : ℕ) (d : X) → i < length xs → f (get_or xs i d)
    ≡ point_at (map f xs) i
point_is f xs i d below = sym (get_or-map f xs i d nowhere below)
