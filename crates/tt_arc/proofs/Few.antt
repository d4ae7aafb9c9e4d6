-- An outline has at most 32 chords and straight edges for each of its points, and no more edges than these.
use Rattle.std.proofs.Common.{◌≡◌, ℕ, zero, suc, ◌+◌, ◌-◌, ◌*◌, ◌<◌, ◌≤◌, Bool, true, false, nat_lt, if◌then◌else◌, List, [], ◌∷◌, length, map, drop, slice_index, sum_by, ℤ, refl, arith, add-one, length-append}
use Rattle.std.specs.List.{flat_map, range_with_len, slice_range}
use Rattle.std.proofs.lemmas.List.Sums.{sum_by-cons}
use Rattle.std.proofs.lemmas.List.{length-take}
use Rattle.tt_scan_edges.specs.declared.edge.Edge.{Edge}
use Rattle.tt_fit_outline.specs.Outline.{AreEnds}
use Rattle.tt_arc.specs.declared.quadratic.Quadratic.{Quadratic}
use Rattle.tt_arc.specs.declared.point.PlacedPoint.{PlacedPoint}
use Rattle.tt_arc.specs.declared.rule.ChordRule.{ChordRule}
use Rattle.tt_arc.specs.declared.rule.ChordRule.TheVariants as rule
use Rattle.tt_arc.specs.Chords.{chord_count, chord_end, chords_by, edge_between, first_chords, edges_of, edges_at, contour_chords, joined_by, contour_edges, contour_start, contour_at, chords_of, chord_edges, chords_counted, moved}
use Rattle.tt_scan_edges.proofs.JoinedKept.{joined_fewer}
use Rattle.tt_arc.proofs.Contours.{slice_of_map, start_within}
use Rattle.tt_arc.proofs.Counts.{few_chords}

many_chords : (m : ℕ) (c : Quadratic) (n : ℕ) → length (first_chords m c n) ≡ n
unfolding first_chords
many_chords m c zero = refl
many_chords m c (suc k) =
    let more = many_chords m c k in
    let both = length-append (first_chords m c k) (edge_between (chord_end m c k) (chord_end m c (suc k)) ∷ []) in
    omega (arith, more, both)

pub chords_counted_by : (r : ChordRule) (c : Quadratic) → length (chords_by r c) ≡ chord_count r c
chords_counted_by r c = many_chords (chord_count r c) c (chord_count r c)

one_of : (on next : Bool) (line : Edge) (chords : List Edge) → length chords ≤ 32
    → length (if on then (if next then line ∷ [] else []) else chords) ≤ 32
one_of true true line chords few = omega arith
one_of true false line chords few = omega arith
one_of false next line chords few = few

few_by : (r : ChordRule) (c : Quadratic) → length (chords_by r c) ≤ 32
few_by r c = rw (chords_counted_by r c) (few_chords r c)

pub few_of : (r : ChordRule) (before p after : PlacedPoint) → length (edges_of r before p after) ≤ 32
unfolding edges_of
few_of r before p after = one_of p.on after.on _ _ (few_by r _)

few_points : (r : ChordRule) (all : List PlacedPoint) (k m : ℕ) → length (flat_map (edges_at r all) (range_with_len k m)) ≤ 32 * m
few_points r all k zero = omega arith
few_points r all k (suc m) =
    let few : length (edges_at r all k) ≤ 32 = few_of r _ _ _ in
    let others = few_points r all (k + 1) m in
    let both = length-append (edges_at r all k) (flat_map (edges_at r all) (range_with_len (k + 1) m)) in
    omega arith

if_any : (b : Bool) (es : List Edge) (n : ℕ) → length es ≤ n → length (if b then es else []) ≤ n
if_any true es n few = few
if_any false es n few = omega arith

few_in_contour : (r : ChordRule) (ps : List PlacedPoint) → length (contour_chords r ps) ≤ 32 * length ps
few_in_contour r ps = if_any (nat_lt 1 (length ps)) _ (32 * length ps) (few_points r ps 0 (length ps))

-- the chords of the contours from contour c on
abbrev pub chords_from : ChordRule → List PlacedPoint → List ℕ → ℕ → ℕ
chords_from r ps ends c = sum_by (λ c. length (contour_chords r (contour_at ps ends c))) (range_with_len c (length ends - c))

pub all_counted : (r : ChordRule) (ps : List PlacedPoint) (ends : List ℕ) → 0 + chords_from r ps ends 0 ≡ chords_of r ps ends
all_counted r ps ends =
    let whole : length ends - 0 ≡ length ends = omega arith in
    let same : chords_from r ps ends 0 ≡ chords_of r ps ends = rw whole refl in
    omega (arith, same)

few_in_contours : (r : ChordRule) (n : ℕ) (ends : List ℕ) (ps : List PlacedPoint) → AreEnds n ends → (c m : ℕ) → c + m ≡ length ends
    → sum_by (λ c. length (contour_chords r (contour_at ps ends c))) (range_with_len c m) ≤ 32 *
    (n - contour_start ends c)
few_in_contours r n ends ps are c zero all = omega arith
few_in_contours r n ends ps are c (suc m) all =
    let start = contour_start ends c in
    let end = slice_index ends c in
    let after : start ≤ end = start_within n ends are c (omega arith) in
    let inside : end ≤ n = are.within c in
    let few = few_in_contour r (contour_at ps ends c) in
    let short = length-take (end - start) (drop start ps) in
    let next : contour_start ends (c + 1) ≡ end = rw add-one refl in
    let others = rw next at (few_in_contours r n ends ps are (c + 1) m (omega arith)) in
    let both = sum_by-cons (λ c. length (contour_chords r (contour_at ps ends c))) c (range_with_len (c + 1) m) in
    omega (arith, after, inside, few, short, others, both)

pub few_counted : (r : ChordRule) (points : List (ℤ × ℤ × Bool)) (ends : List ℕ) (dx dy : ℤ) → AreEnds (length points) ends
    → chords_counted r points ends dx dy ≤ 32 * length points
few_counted r points ends dx dy are =
    let few = few_in_contours r (length points) ends (map (moved dx dy) points) are 0 (length ends) (omega arith) in
    omega (arith, few)

joined_fewer_by : (r : ChordRule) (es : List Edge) → length (joined_by r es) ≤ length es
joined_fewer_by rule.Eight es = omega arith
joined_fewer_by rule.ByBend es = joined_fewer es

fewer_in : (r : ChordRule) (f : ℕ → List PlacedPoint) (cs : List ℕ)
    → length (flat_map (λ c. contour_edges r (f c)) cs) ≤ sum_by (λ c. length (contour_chords r (f c))) cs
fewer_in r f [] = omega arith
fewer_in r f (c ∷ cs) =
    let one = joined_fewer_by r (contour_chords r (f c)) in
    let more = fewer_in r f cs in
    let both = length-append (contour_edges r (f c)) (flat_map (λ c. contour_edges r (f c)) cs) in
    let sum = sum_by-cons (λ c. length (contour_chords r (f c))) c cs in
    omega (arith, one, more, both, sum)

pub fewer_edges : (r : ChordRule) (points : List (ℤ × ℤ × Bool)) (ends : List ℕ) (dx dy : ℤ)
    → length (chord_edges r points ends dx dy) ≤ chords_counted r points ends dx dy
fewer_edges r points ends dx dy =
    fewer_in r (λ c. contour_at (map (moved dx dy) points) ends c) (range_with_len 0 (length ends))

-- one more contour counted
pub one_counted_more : (r : ChordRule) {X : Type 0} (f : X → PlacedPoint) (ps : List X) (ends : List ℕ) (count n from i to : ℕ)
    → i < length ends → from ≡ contour_start ends i → to ≡ slice_index ends i
    → n ≡ length (contour_chords r (map f (slice_range ps from to)))
    → (count + n) + chords_from r (map f ps) ends (i + 1) ≡ count + chords_from r (map f ps) ends i
one_counted_more r f ps ends count n from i to below is_from is_to is =
    let more : length ends - i ≡ suc (length ends - (i + 1)) = omega arith in
    let sum = sum_by-cons (λ c. length (contour_chords r (contour_at (map f ps) ends c))) i
    (range_with_len (i + 1) (length ends - (i + 1))) in
    let here : n ≡ length (contour_chords r (contour_at (map f ps) ends i)) =
    rw (is, is_from, is_to, slice_of_map f ps (contour_start ends i) (slice_index ends i)) refl in
    rw more (omega (arith, sum, here))

pub none_counted : (r : ChordRule) (ps : List PlacedPoint) (ends : List ℕ) → chords_from r ps ends (length ends) ≡ 0
none_counted r ps ends = let none : length ends - length ends ≡ 0 = omega arith in rw none refl

-- the chords of the contours so far are at most 32 for each point
pub counted_within : (r : ChordRule) (ps : List PlacedPoint) (n from to count : ℕ) → from ≤ to → count ≤ 32 * from
    → n ≡ length (contour_chords r (slice_range ps from to)) → count + n ≤ 32 * to
counted_within r ps n from to count order few is =
    let one = few_in_contour r (slice_range ps from to) in
    let short = length-take (to - from) (drop from ps) in
    omega (arith, order, few, is, one, short)
