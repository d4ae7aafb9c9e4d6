-- Moving an outline moves its edges as far.
use Rattle.std.proofs.Common.{◌≡◌, ℕ, zero, suc, ◌≤◌, max, Bool, true, false, if◌then◌else◌, ℤ, pos, ◌+ℤ◌, ◌*ℤ◌, unsigned_abs, List, [], ◌∷◌, length, map, refl, sym, ap, ◌∙◌, arith}
use Rattle.std.specs.List.{slice_index, flat_map, range_with_len}
use Rattle.std.proofs.lemmas.Int.{ints}
use Rattle.std.proofs.lemmas.List.{map-append}
use Rattle.tt_scan_edges.specs.Joined.{joined}
use Rattle.tt_scan_edges.specs.declared.edge.Edge.{Edge}
use Rattle.tt_scan_edges.specs.Winding.{moved_edge, moved_edges}
use Rattle.tt_arc.specs.declared.quadratic.Quadratic.{Quadratic}
use Rattle.tt_arc.specs.declared.quadratic.CurveEnd.{CurveEnd}
use Rattle.tt_arc.specs.declared.quadratic.EdgeEnd.{EdgeEnd}
use Rattle.tt_arc.specs.declared.point.PlacedPoint.{PlacedPoint}
use Rattle.tt_arc.specs.declared.rule.ChordRule.{ChordRule}
use Rattle.tt_arc.specs.declared.rule.ChordRule.TheVariants as rule
use Rattle.tt_arc.specs.Chords.{moved, edge_end_of, curve_end_of, quadratic_of, along_x, along_y, signed_bend, chords_of_bend, chord_count, chord_end, chords_by, edge_between, first_chords, edges_of, contour_chords, joined_by, contour_edges, contour_start, contour_at, chord_edges, chord_contours}
use Rattle.tt_arc.specs.Laws.{OutlineMoved, ContoursMoved, raised_edge, ContoursRaised}
use Rattle.tt_arc.proofs.Contours.{slice_of_map}
use Rattle.tt_scan_edges.proofs.JoinedMoved.{joined_exchanged, joined_moved}
use Rattle.tt_arc.proofs.ChordEnds.{bend_moved, place_moved}
use Rattle.tt_arc.proofs.Walks.{edges_along, last_of, contour_whole}

-- d is in 26.6: twice d in 1/128 pixel, 128 times d in 1/8192 pixel
abbrev point_moved : ℤ → PlacedPoint → PlacedPoint
point_moved d p = record { x = p.x +ℤ d; y = p.y; on = p.on }

abbrev curve_end_moved : ℤ → CurveEnd → CurveEnd
curve_end_moved d j = record { x = j.x +ℤ pos 2 *ℤ d; y = j.y }

abbrev quadratic_moved : ℤ → Quadratic → Quadratic
quadratic_moved d c = record { from = curve_end_moved d c.from; control = point_moved d c.control; to = curve_end_moved d c.to }

abbrev edge_end_moved : ℤ → EdgeEnd → EdgeEnd
edge_end_moved d s = record { x = s.x +ℤ pos 128 *ℤ d; y = s.y }

abbrev along : ℤ → List Edge → List Edge
along d es = moved_edges (pos 128 *ℤ d) es

edge_end_is : (d : ℤ) (p : PlacedPoint) → edge_end_of (point_moved d p) ≡ edge_end_moved d (edge_end_of p)
edge_end_is d p =
    let y = pos 128 *ℤ p.y in
    let Q : ℤ → EdgeEnd = λ x. record { x = x; y = y } in
    ap Q (omega (arith, ints))

curve_end_by : (on : Bool) (d nx ny px py : ℤ)
    → (if on then record { x = pos 2 *ℤ (nx +ℤ d); y = pos 2 *ℤ ny }
    else record { x = (nx +ℤ d) +ℤ (px +ℤ d); y = ny +ℤ py })
    ≡ curve_end_moved d (if on then record { x = pos 2 *ℤ nx; y = pos 2 *ℤ ny } else record { x = nx +ℤ px; y = ny +ℤ py })
curve_end_by true d nx ny px py = let Q : ℤ → CurveEnd = λ x. record { x = x; y = pos 2 *ℤ ny } in ap Q (omega (arith, ints))
curve_end_by false d nx ny px py = let Q : ℤ → CurveEnd = λ x. record { x = x; y = ny +ℤ py } in ap Q (omega (arith, ints))

quadratic_is : (d : ℤ) (before p after : PlacedPoint) → quadratic_of (point_moved d before) (point_moved d p) (point_moved d after)
    ≡ quadratic_moved d (quadratic_of before p after)
quadratic_is d before p after =
    let from : curve_end_of (point_moved d before) (point_moved d p) ≡ curve_end_moved d (curve_end_of before p) = curve_end_by before.on d
    before.x before.y p.x p.y in
    let to : curve_end_of (point_moved d after) (point_moved d p) ≡ curve_end_moved d (curve_end_of after p) = curve_end_by after.on d
    after.x after.y p.x p.y in
    rw (from, to) refl

end_moved : (r : ChordRule) (d : ℤ) (c : Quadratic) (k : ℕ) → k ≤ chord_count r c
    → chord_end (chord_count r c) (quadratic_moved d c) k ≡ edge_end_moved d (chord_end (chord_count r c) c k)
end_moved r d c k le =
    let y = (chord_end (chord_count r c) c k).y in
    let Q : ℤ → EdgeEnd = λ x. record { x = x; y = y } in
    ap Q (place_moved r c k d (along_x c) le)

count_along : (r : ChordRule) (d : ℤ) (c : Quadratic) → chord_count r (quadratic_moved d c) ≡ chord_count r c
count_along rule.Eight d c = refl
count_along rule.ByBend d c =
    ap (λ a. chords_of_bend (max (unsigned_abs a) (unsigned_abs (signed_bend (along_y c))))) (bend_moved d (along_x c))

edge_is : (d : ℤ) (from to f t : EdgeEnd) → from ≡ edge_end_moved d f → to ≡ edge_end_moved d t → edge_between from to
    ≡ moved_edge (pos 128 *ℤ d) (edge_between f t)
edge_is d from to f t is_from is_to = rw (is_from, is_to) refl

chords_moved : (r : ChordRule) (d : ℤ) (c : Quadratic) (n : ℕ) → n ≤ chord_count r c
    → first_chords (chord_count r c) (quadratic_moved d c) n ≡ along d (first_chords (chord_count r c) c n)
unfolding first_chords
chords_moved r d c zero le = refl
chords_moved r d c (suc k) le =
    let m = chord_count r c in
    let edge = edge_is d _ _ (chord_end m c k) (chord_end m c (suc k)) (end_moved r d c k (omega (arith, le)))
    (end_moved r d c (suc k) le) in
    let before = chords_moved r d c k (omega (arith, le)) in
    rw (edge, before) (sym (map-append (moved_edge (pos 128 *ℤ d)) (first_chords m c k)
    (edge_between (chord_end m c k) (chord_end m c (suc k)) ∷ [])))

all_moved : (r : ChordRule) (d : ℤ) (c : Quadratic) → chords_by r (quadratic_moved d c) ≡ along d (chords_by r c)
all_moved r d c = ap (λ n. first_chords n (quadratic_moved d c) n) (count_along r d c)
    ∙ chords_moved r d c (chord_count r c) (omega arith)

one_of : (E : Edge → Edge) (on next : Bool) (l line : Edge) (cs chords : List Edge) → l ≡ E line → cs ≡ map E chords
    → (if on then (if next then l ∷ [] else []) else cs)
    ≡ map E (if on then (if next then line ∷ [] else []) else chords)
one_of E true true l line cs chords is_line are = rw is_line refl
one_of E true false l line cs chords is_line are = refl
one_of E false next l line cs chords is_line are = are

edges_moved : (r : ChordRule) (d : ℤ) (before p after : PlacedPoint) → edges_of r (point_moved d before) (point_moved d p) (point_moved d after)
    ≡ along d (edges_of r before p after)
unfolding edges_of
edges_moved r d before p after =
    let line = edge_is d _ _ (edge_end_of p) (edge_end_of after) (edge_end_is d p) (edge_end_is d after) in
    let chords : chords_by r (quadratic_of (point_moved d before) (point_moved d p) (point_moved d after))
    ≡ along d (chords_by r (quadratic_of before p after)) = rw (quadratic_is d before p after)
    (all_moved r d (quadratic_of before p after)) in
    one_of (moved_edge (pos 128 *ℤ d)) p.on after.on _ _ _ _ line chords

-- a change of each point's edges is a change of the edges of contours and outlines; P changes points, E edges
abbrev Changes : ChordRule → (PlacedPoint → PlacedPoint) → (Edge → Edge) → Type 0
Changes r P E = (before p after : PlacedPoint) → edges_of r (P before) (P p) (P after) ≡ map E (edges_of r before p after)

along_changed : (r : ChordRule) (P : PlacedPoint → PlacedPoint) (E : Edge → Edge) → Changes r P E
    → (before p : PlacedPoint) (ps : List PlacedPoint) (following : PlacedPoint)
    → edges_along r (P before) (P p) (map P ps) (P following) ≡ map E (edges_along r before p ps following)
along_changed r P E each before p [] following = each before p following
along_changed r P E each before p (q ∷ ps) following =
    rw (each before p q, along_changed r P E each p q ps following)
    (sym (map-append E (edges_of r before p q) (edges_along r p q ps following)))

last_changed : (P : PlacedPoint → PlacedPoint) (p : PlacedPoint) (ps : List PlacedPoint) → last_of (P p) (map P ps) ≡ P (last_of p ps)
last_changed P p [] = refl
last_changed P p (q ∷ ps) = last_changed P q ps

chords_changed : (r : ChordRule) (P : PlacedPoint → PlacedPoint) (E : Edge → Edge) → Changes r P E → (ps : List PlacedPoint)
    → contour_chords r (map P ps) ≡ map E (contour_chords r ps)
chords_changed r P E each [] = refl
chords_changed r P E each (p ∷ []) = refl
chords_changed r P E each (p ∷ q ∷ ps) =
    let whole = contour_whole r (P p) (P q) (map P ps) in
    let walked = rw (last_changed P q ps) at whole in
    sym walked ∙ along_changed r P E each (last_of q ps) p (q ∷ ps) p ∙ ap (map E) (contour_whole r p q ps)

-- the same edges are joined after a change of edges as before
abbrev Alike : (Edge → Edge) → Type 0
Alike E = (es : List Edge) → joined (map E es) ≡ map E (joined es)

alike_by : (r : ChordRule) (E : Edge → Edge) → Alike E → (es : List Edge) → joined_by r (map E es) ≡ map E (joined_by r es)
alike_by rule.Eight E alike es = refl
alike_by rule.ByBend E alike es = alike es

contour_changed : (r : ChordRule) (P : PlacedPoint → PlacedPoint) (E : Edge → Edge) → Changes r P E → Alike E → (ps : List PlacedPoint)
    → contour_edges r (map P ps) ≡ map E (contour_edges r ps)
contour_changed r P E each alike ps =
    ap (joined_by r) (chords_changed r P E each ps) ∙ alike_by r E alike (contour_chords r ps)

one_changed : (r : ChordRule) (P : PlacedPoint → PlacedPoint) (E : Edge → Edge) → Changes r P E → Alike E → (ps : List PlacedPoint) (ends : List ℕ) (c : ℕ)
    → contour_edges r (contour_at (map P ps) ends c) ≡ map E (contour_edges r (contour_at ps ends c))
one_changed r P E each alike ps ends c =
    rw (slice_of_map P ps (contour_start ends c) (slice_index ends c)) (contour_changed r P E each alike (contour_at ps ends c))

outline_changed : (r : ChordRule) (P : PlacedPoint → PlacedPoint) (E : Edge → Edge) → Changes r P E → Alike E → (ps : List PlacedPoint) (ends cs : List ℕ)
    → flat_map (λ c. contour_edges r (contour_at (map P ps) ends c)) cs
    ≡ map E (flat_map (λ c. contour_edges r (contour_at ps ends c)) cs)
outline_changed r P E each alike ps ends [] = refl
outline_changed r P E each alike ps ends (c ∷ cs) =
    rw (one_changed r P E each alike ps ends c, outline_changed r P E each alike ps ends cs)
    (sym (map-append E (contour_edges r (contour_at ps ends c))
    (flat_map (λ c. contour_edges r (contour_at ps ends c)) cs)))

-- the corresponding statement for each contour
contours_changed : (r : ChordRule) (P : PlacedPoint → PlacedPoint) (E : Edge → Edge) → Changes r P E → Alike E → (ps : List PlacedPoint) (ends cs : List ℕ)
    → map (λ c. contour_edges r (contour_at (map P ps) ends c)) cs
    ≡ map (map E) (map (λ c. contour_edges r (contour_at ps ends c)) cs)
contours_changed r P E each alike ps ends [] = refl
contours_changed r P E each alike ps ends (c ∷ cs) =
    rw (one_changed r P E each alike ps ends c, contours_changed r P E each alike ps ends cs) refl

point_is : (dx dy d : ℤ) (p : ℤ × ℤ × Bool) → moved (dx +ℤ d) dy p ≡ point_moved d (moved dx dy p)
point_is dx dy d p =
    let Q : ℤ → PlacedPoint = λ x. record { x = x; y = p.1 +ℤ dy; on = p.2 } in
    ap Q (omega (arith, ints))

points_moved : (dx dy d : ℤ) (ps : List (ℤ × ℤ × Bool)) → map (moved (dx +ℤ d) dy) ps
    ≡ map (point_moved d) (map (moved dx dy) ps)
points_moved dx dy d [] = refl
points_moved dx dy d (p ∷ ps) = rw (point_is dx dy d p, points_moved dx dy d ps) refl

-- a pixel has 64 units in 26.6
pixels : (k : ℤ) → pos 128 *ℤ (pos 64 *ℤ k) ≡ pos 8192 *ℤ k
pixels k = omega (arith, ints)

moved_alike : (k : ℤ) → Alike (moved_edge (pos 128 *ℤ (pos 64 *ℤ k)))
moved_alike k es = rw (pixels k) (joined_moved k es)

any_moved : (r : ChordRule) (points : List (ℤ × ℤ × Bool)) (ends : List ℕ) (dx dy k : ℤ)
    → chord_edges r points ends (dx +ℤ pos 64 *ℤ k) dy ≡ along (pos 64 *ℤ k) (chord_edges r points ends dx dy)
any_moved r points ends dx dy k =
    let d = pos 64 *ℤ k in
    rw (points_moved dx dy d points) (outline_changed r (point_moved d) (moved_edge (pos 128 *ℤ d)) (edges_moved r d)
    (moved_alike k) (map (moved dx dy) points) ends (range_with_len 0 (length ends)))

any_contours_moved : (r : ChordRule) (points : List (ℤ × ℤ × Bool)) (ends : List ℕ) (dx dy k : ℤ)
    → chord_contours r points ends (dx +ℤ pos 64 *ℤ k) dy ≡ map (along (pos 64 *ℤ k)) (chord_contours r points ends dx dy)
any_contours_moved r points ends dx dy k =
    let d = pos 64 *ℤ k in
    rw (points_moved dx dy d points) (contours_changed r (point_moved d) (moved_edge (pos 128 *ℤ d)) (edges_moved r d)
    (moved_alike k) (map (moved dx dy) points) ends (range_with_len 0 (length ends)))

pub outline_at : OutlineMoved
outline_at r points ends dx dy k =
    any_moved r points ends dx dy k ∙ ap (λ z. moved_edges z (chord_edges r points ends dx dy)) (pixels k)

pub contours_there : ContoursMoved
contours_there r points ends dx dy k =
    any_contours_moved r points ends dx dy k
    ∙ ap (λ z. map (moved_edges z) (chord_contours r points ends dx dy)) (pixels k)

-- An outline with x and y exchanged moves along x if the outline moves up.

abbrev exchanged : PlacedPoint → PlacedPoint
exchanged p = record { x = p.y; y = p.x; on = p.on }

abbrev curve_end_exchanged : CurveEnd → CurveEnd
curve_end_exchanged j = record { x = j.y; y = j.x }

abbrev quadratic_exchanged : Quadratic → Quadratic
quadratic_exchanged c =
    record { from = curve_end_exchanged c.from; control = exchanged c.control; to = curve_end_exchanged c.to }

abbrev edge_exchanged : Edge → Edge
edge_exchanged e = record { ax = e.ay; ay = e.ax; bx = e.by; by = e.bx }

curve_end_exchanged_by : (on : Bool) (a b : CurveEnd)
    → (if on then curve_end_exchanged a else curve_end_exchanged b) ≡ curve_end_exchanged (if on then a else b)
curve_end_exchanged_by true a b = refl
curve_end_exchanged_by false a b = refl

chords_exchanged : (m : ℕ) (c : Quadratic) (n : ℕ) → first_chords m (quadratic_exchanged c) n
    ≡ map edge_exchanged (first_chords m c n)
unfolding first_chords
chords_exchanged m c zero = refl
chords_exchanged m c (suc k) =
    let before = chords_exchanged m c k in
    rw before (sym (map-append edge_exchanged (first_chords m c k)
    (edge_between (chord_end m c k) (chord_end m c (suc k)) ∷ [])))

max_turned : (a b : ℕ) → max a b ≡ max b a
max_turned a b = omega arith

count_exchanged : (r : ChordRule) (c : Quadratic) → chord_count r (quadratic_exchanged c) ≡ chord_count r c
count_exchanged rule.Eight c = refl
count_exchanged rule.ByBend c =
    ap chords_of_bend (max_turned (unsigned_abs (signed_bend (along_y c))) (unsigned_abs (signed_bend (along_x c))))

all_exchanged : (r : ChordRule) (c : Quadratic) → chords_by r (quadratic_exchanged c) ≡ map edge_exchanged (chords_by r c)
all_exchanged r c = ap (λ n. first_chords n (quadratic_exchanged c) n) (count_exchanged r c)
    ∙ chords_exchanged (chord_count r c) c (chord_count r c)

edges_exchanged : (r : ChordRule) → Changes r exchanged edge_exchanged
unfolding edges_of
edges_exchanged r before p after =
    let c = quadratic_of before p after in
    let from : curve_end_of (exchanged before) (exchanged p) ≡ curve_end_exchanged c.from = curve_end_exchanged_by
    before.on _ _ in
    let to : curve_end_of (exchanged after) (exchanged p) ≡ curve_end_exchanged c.to = curve_end_exchanged_by
    after.on _ _ in
    let is : quadratic_of (exchanged before) (exchanged p) (exchanged after) ≡ quadratic_exchanged c = rw (from, to) refl in
    let chords : chords_by r (quadratic_of (exchanged before) (exchanged p) (exchanged after))
    ≡ map edge_exchanged (chords_by r c) = rw is (all_exchanged r c) in
    one_of edge_exchanged p.on after.on _ _ _ _ refl chords

abbrev point_raised : ℤ → PlacedPoint → PlacedPoint
point_raised d p = record { x = p.x; y = p.y +ℤ d; on = p.on }

raised_is : (d : ℤ) (es : List Edge) → map edge_exchanged (along d (map edge_exchanged es))
    ≡ map (raised_edge (pos 128 *ℤ d)) es
raised_is d [] = refl
raised_is d (e ∷ es) = ap (λ rest. raised_edge (pos 128 *ℤ d) e ∷ rest) (raised_is d es)

edges_raised : (r : ChordRule) (d : ℤ) → Changes r (point_raised d) (raised_edge (pos 128 *ℤ d))
edges_raised r d before p after =
    edges_exchanged r (point_moved d (exchanged before)) (point_moved d (exchanged p)) (point_moved d (exchanged after))
    ∙ ap (map edge_exchanged) (edges_moved r d (exchanged before) (exchanged p) (exchanged after)
    ∙ ap (along d) (edges_exchanged r before p after))
    ∙ raised_is d (edges_of r before p after)

point_there : (dx dy d : ℤ) (p : ℤ × ℤ × Bool) → moved dx (dy +ℤ d) p ≡ point_raised d (moved dx dy p)
point_there dx dy d p =
    let Q : ℤ → PlacedPoint = λ y. record { x = p.0 +ℤ dx; y = y; on = p.2 } in
    ap Q (omega (arith, ints))

points_raised : (dx dy d : ℤ) (ps : List (ℤ × ℤ × Bool)) → map (moved dx (dy +ℤ d)) ps
    ≡ map (point_raised d) (map (moved dx dy) ps)
points_raised dx dy d [] = refl
points_raised dx dy d (p ∷ ps) = rw (point_there dx dy d p, points_raised dx dy d ps) refl

raised_alike : (k : ℤ) → Alike (raised_edge (pos 128 *ℤ (pos 64 *ℤ k)))
raised_alike k es =
    let d = pos 64 *ℤ k in
    ap joined (sym (raised_is d es)) ∙ joined_exchanged (along d (map edge_exchanged es))
    ∙ ap (map edge_exchanged) (moved_alike k (map edge_exchanged es) ∙ ap (along d) (joined_exchanged es))
    ∙ raised_is d (joined es)

any_contours_raised : (r : ChordRule) (points : List (ℤ × ℤ × Bool)) (ends : List ℕ) (dx dy k : ℤ)
    → chord_contours r points ends dx (dy +ℤ pos 64 *ℤ k)
    ≡ map (map (raised_edge (pos 128 *ℤ (pos 64 *ℤ k)))) (chord_contours r points ends dx dy)
any_contours_raised r points ends dx dy k =
    let d = pos 64 *ℤ k in
    rw (points_raised dx dy d points) (contours_changed r (point_raised d) (raised_edge (pos 128 *ℤ d)) (edges_raised r d)
    (raised_alike k) (map (moved dx dy) points) ends (range_with_len 0 (length ends)))

pub contours_above : ContoursRaised
contours_above r points ends dx dy k =
    any_contours_raised r points ends dx dy k
    ∙ ap (λ z. map (map (raised_edge z)) (chord_contours r points ends dx dy)) (pixels k)
