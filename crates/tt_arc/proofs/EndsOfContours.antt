-- The ends of an outline's contours among its edges.
use Rattle.std.proofs.Common.{◌≡◌, ℕ, suc, ◌+◌, ◌-◌, ◌<◌, ◌≤◌, Bool, ℤ, List, [], ◌∷◌, ◌++◌, length, map, refl, sym, ◌∙◌, arith, append_assoc, append-nil, length-append}
use Rattle.std.specs.List.{slice_index, slice_range, flat_map, range_with_len}
use Rattle.std.proofs.lemmas.List.{take_at, drop_at}
use Rattle.std.proofs.lemmas.List.Folds.{flat_map-map}
use Rattle.tt_scan_edges.specs.declared.edge.Edge.{Edge}
use Rattle.tt_arc.specs.declared.point.PlacedPoint.{PlacedPoint}
use Rattle.tt_arc.specs.declared.rule.ChordRule.{ChordRule}
use Rattle.tt_arc.specs.Ends.{ends_from}
use Rattle.tt_scan.specs.Contours.{contours_from, contours_at, AreEndsFrom, AreEnds}
use Rattle.tt_arc.specs.Chords.{moved, contour_edges, contour_start, contour_at, outline_contours, chord_edges, chord_contours}
use Rattle.tt_arc.proofs.Contours.{slice_of_map}
use Rattle.tt_arc.specs.Laws.{ContoursJoined}

pub joined : ContoursJoined
joined r points ends dx dy =
    flat_map-map (λ es. es) (λ c. contour_edges r (contour_at (map (moved dx dy) points) ends c))
    (range_with_len 0 (length ends))

-- the contours from contour i on
abbrev pub contours_left : ChordRule → List PlacedPoint → List ℕ → ℕ → List (List Edge)
contours_left r ps ends i = map (λ c. contour_edges r (contour_at ps ends c)) (range_with_len i (length ends - i))

pub all_contours_left : (r : ChordRule) (ps : List PlacedPoint) (ends : List ℕ) → contours_left r ps ends 0 ≡ outline_contours r ps ends
all_contours_left r ps ends = let whole : length ends - 0 ≡ length ends = omega arith in rw whole refl

none_is_left : (r : ChordRule) (ps : List PlacedPoint) (ends : List ℕ) (i : ℕ) → length ends ≤ i → contours_left r ps ends i ≡ []
none_is_left r ps ends i all = let none : length ends - i ≡ 0 = omega (arith, all) in rw none refl

-- the end of one more contour
pub one_end_more : (r : ChordRule) {X : Type 0} (f : X → PlacedPoint) (points : List X) (ends out new : List ℕ) (old edges : List Edge) (from i to : ℕ)
    → i < length ends → from ≡ contour_start ends i → to ≡ slice_index ends i
    → edges ≡ old ++ contour_edges r (map f (slice_range points from to)) → new ≡ out ++ length edges ∷ []
    → new ++ ends_from (length edges) (contours_left r (map f points) ends (i + 1))
    ≡ out ++ ends_from (length old) (contours_left r (map f points) ends i)
one_end_more r f points ends out new old edges from i to below is_from is_to is_edges is_new =
    let more : length ends - i ≡ suc (length ends - (i + 1)) = omega (arith, below) in
    let here : contour_edges r (map f (slice_range points from to)) ≡ contour_edges r (contour_at (map f points) ends i) =
    rw (is_from, is_to, slice_of_map f points (contour_start ends i) (slice_index ends i)) refl in
    let many : length edges ≡ length old + length (contour_edges r (contour_at (map f points) ends i)) =
    rw (is_edges, here) (length-append old (contour_edges r (contour_at (map f points) ends i))) in
    rw (is_new, more, many, append_assoc) refl

-- the ends of all contours
pub all_ended : (r : ChordRule) (ps : List PlacedPoint) (ends out whole : List ℕ) (edges i : ℕ)
    → length ends ≤ i → out ++ ends_from edges (contours_left r ps ends i) ≡ whole → out ≡ whole
all_ended r ps ends out whole edges i all is =
    let done = rw (none_is_left r ps ends i all) at is in sym (append-nil out) ∙ done

-- edges cut at these ends are the edges of the contours
cut : (before : List Edge) (ess : List (List Edge))
    → contours_from (length before) (before ++ flat_map (λ es. es) ess) (ends_from (length before) ess) ≡ ess
cut before [] = refl
cut before (es ∷ ess) =
    let rest = flat_map (λ es. es) ess in
    let many : (length before + length es) - length before ≡ length es = omega arith in
    let first : slice_range (before ++ (es ++ rest)) (length before) (length before + length es) ≡ es =
    rw (many, drop_at before (es ++ rest) (length before) refl) (take_at es rest (length es) refl) in
    let others = rw (length-append before es, append_assoc) at (cut (before ++ es) ess) in
    rw (first, others) refl

are_ends : (from : ℕ) (ess : List (List Edge))
    → AreEndsFrom from (from + length (flat_map (λ es. es) ess)) (ends_from from ess)
are_ends from [] = omega arith
are_ends from (es ∷ ess) =
    let rest = flat_map (λ es. es) ess in
    let both : from + length (es ++ rest) ≡ (from + length es) + length rest = omega (arith, length-append es rest) in
    (omega arith, rw both (are_ends (from + length es) ess))

-- so are the edges of an outline
pub cut_at_ends : (r : ChordRule) (points : List (ℤ × ℤ × Bool)) (ends : List ℕ) (dx dy : ℤ)
    → contours_at (chord_edges r points ends dx dy) (ends_from 0 (chord_contours r points ends dx dy))
    ≡ chord_contours r points ends dx dy
cut_at_ends r points ends dx dy = rw (← joined r points ends dx dy) (cut [] (chord_contours r points ends dx dy))

pub ends_are : (r : ChordRule) (points : List (ℤ × ℤ × Bool)) (ends : List ℕ) (dx dy : ℤ)
    → AreEnds (length (chord_edges r points ends dx dy)) (ends_from 0 (chord_contours r points ends dx dy))
ends_are r points ends dx dy =
    let all = chord_contours r points ends dx dy in
    let whole : 0 + length (flat_map (λ es. es) all) ≡ length (flat_map (λ es. es) all) = omega arith in
    rw (← joined r points ends dx dy) (rw whole at (are_ends 0 all))
