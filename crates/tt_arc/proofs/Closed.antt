-- The edges of a closed contour lead from one to the next, and from the last to the first.
use Rattle.std.proofs.Common.{◌≡◌, ℕ, zero, suc, Bool, true, false, ℤ, pos, ◌+ℤ◌, ◌*ℤ◌, if◌then◌else◌, List, [], ◌∷◌, ◌++◌, length, map, inl, inr, refl, sym, ap, ◌∙◌, arith}
use Rattle.std.specs.Prelude.{All}
use Rattle.std.proofs.lemmas.Bool.{cases_Bool}
use Rattle.std.specs.List.{range_with_len}
use Rattle.std.proofs.lemmas.Int.{ints}
use Rattle.std.proofs.lemmas.List.Elements.{All-cons}
use Rattle.tt_scan.specs.Contours.{GoesRound, IsClosed}
use Rattle.tt_scan_edges.specs.Joined.{join, joined_from, joins}
use Rattle.tt_scan_edges.specs.declared.edge.Edge.{Edge}
use Rattle.tt_arc.specs.declared.quadratic.Quadratic.{Quadratic}
use Rattle.tt_arc.specs.declared.quadratic.CurveEnd.{CurveEnd}
use Rattle.tt_arc.specs.declared.quadratic.EdgeEnd.{EdgeEnd}
use Rattle.tt_arc.specs.declared.point.PlacedPoint.{PlacedPoint}
use Rattle.tt_arc.specs.declared.rule.ChordRule.{ChordRule}
use Rattle.tt_arc.specs.declared.rule.ChordRule.TheVariants as rule
use Rattle.tt_arc.specs.Chords.{moved, edge_end_of, curve_end_of, quadratic_of, along_x, along_y, chord_count, chord_end, chords_by, edge_between, first_chords, edges_of, contour_chords, joined_by, contour_edges, contour_at}
use Rattle.tt_arc.specs.Laws.{ContoursAreClosed}
use Rattle.tt_arc.proofs.ChordEnds.{first_place, last_place}
use Rattle.tt_arc.proofs.Turns.{straight, no_edge, curved}
use Rattle.tt_arc.proofs.Walks.{edges_along, last_of, contour_whole}

-- edges lead from one place to another, each from the end of the preceding edge
abbrev Leads : EdgeEnd → List Edge → EdgeEnd → Type 0
Leads s [] t = s ≡ t
Leads s (e ∷ es) t = (s ≡ record { x = e.ax; y = e.ay }) × Leads (record { x = e.bx; y = e.by }) es t

leads_on : (s t u : EdgeEnd) (es fs : List Edge) → Leads s es t → Leads t fs u → Leads s (es ++ fs) u
leads_on s t u [] fs first more = rw first more
leads_on s t u (e ∷ es) fs first more =
    (first.0, leads_on (record { x = e.bx; y = e.by }) t u es fs first.1 more)

goes_round : (e first : Edge) (es : List Edge)
    → Leads (record { x = e.bx; y = e.by }) es (record { x = first.ax; y = first.ay }) → GoesRound e es first
goes_round e first [] leads = (ap (λ s. s.x) leads, ap (λ s. s.y) leads)
goes_round e first (f ∷ es) leads =
    ((ap (λ s. s.x) leads.0, ap (λ s. s.y) leads.0), goes_round f first es leads.1)

closed : (s : EdgeEnd) (es : List Edge) → Leads s es s → IsClosed es
closed s [] leads = tt
closed s (e ∷ es) leads =
    goes_round e e es (rw leads.0 at leads.1)

of_chords : (m : ℕ) (c : Quadratic) (n : ℕ) → Leads (chord_end m c 0) (first_chords m c n) (chord_end m c n)
unfolding first_chords
of_chords m c zero = refl
of_chords m c (suc k) =
    leads_on (chord_end m c 0) (chord_end m c k) (chord_end m c (suc k)) (first_chords m c k)
    (edge_between (chord_end m c k) (chord_end m c (suc k)) ∷ []) (of_chords m c k) (refl, refl)

-- the end of a quadratic as an end of an edge
abbrev whole_end : CurveEnd → EdgeEnd
whole_end c = record { x = pos 64 *ℤ c.x; y = pos 64 *ℤ c.y }

abbrev end_at : ℤ → ℤ → EdgeEnd
end_at x y = record { x = x; y = y }

same_end : (a b c d : ℤ) → a ≡ b → c ≡ d → end_at a c ≡ end_at b d
same_end a b c d is_x is_y = rw (is_x, is_y) refl

from_start : (r : ChordRule) (c : Quadratic) → chord_end (chord_count r c) c 0 ≡ whole_end c.from
from_start r c = rw (first_place r c (along_x c), first_place r c (along_y c)) refl

to_end : (r : ChordRule) (c : Quadratic) → chord_end (chord_count r c) c (chord_count r c) ≡ whole_end c.to
to_end r c = rw (last_place r c (along_x c), last_place r c (along_y c)) refl

-- the start of a point's edges, from the preceding point
abbrev start : PlacedPoint → PlacedPoint → EdgeEnd
start before p = if p.on then edge_end_of p else whole_end (curve_end_of before p)

start_on : (before p : PlacedPoint) → p.on ≡ true → start before p ≡ edge_end_of p
start_on before p on = rw on refl

start_off : (before p : PlacedPoint) → p.on ≡ false → start before p ≡ whole_end (curve_end_of before p)
start_off before p off = rw off refl

curve_end_on : (n p : PlacedPoint) → n.on ≡ true → whole_end (curve_end_of n p) ≡ edge_end_of n
curve_end_on n p on =
    rw on (same_end (pos 64 *ℤ (pos 2 *ℤ n.x)) (pos 128 *ℤ n.x) (pos 64 *ℤ (pos 2 *ℤ n.y)) (pos 128 *ℤ n.y)
    (omega (arith, ints)) (omega (arith, ints)))

-- the point midway between two points off the curve does not depend on their order
curve_end_midway : (n p : PlacedPoint) → n.on ≡ false → p.on ≡ false → curve_end_of n p ≡ curve_end_of p n
curve_end_midway n p n_off p_off =
    let x : n.x +ℤ p.x ≡ p.x +ℤ n.x = omega (arith, ints) in
    let y : n.y +ℤ p.y ≡ p.y +ℤ n.y = omega (arith, ints) in
    rw (n_off, p_off, x, y) refl

-- the edges of a point lead to the start of the next point's edges
leads_by : (s t u v : EdgeEnd) (es fs : List Edge) → es ≡ fs → Leads s fs t → s ≡ u → t ≡ v → Leads u es v
leads_by s t u v es fs same leads is_s is_t = rw (same, ← is_s, ← is_t) leads

of_point_by : (r : ChordRule) (before p after : PlacedPoint) (on next : Bool) → p.on ≡ on → after.on ≡ next
    → Leads (start before p) (edges_of r before p after) (start p after)
of_point_by r before p after true true is_on is_next =
    leads_by (edge_end_of p) (edge_end_of after) (start before p) (start p after) (edges_of r before p after)
    (edge_between (edge_end_of p) (edge_end_of after) ∷ []) (straight r before p after is_on is_next) (refl, refl)
    (sym (start_on before p is_on)) (sym (start_on p after is_next))
of_point_by r before p after true false is_on is_next =
    leads_by (edge_end_of p) (edge_end_of p) (start before p) (start p after) (edges_of r before p after) []
    (no_edge r before p after is_on is_next) refl (sym (start_on before p is_on))
    (sym (start_off p after is_next ∙ curve_end_on p after is_on))
of_point_by r before p after false true is_on is_next =
    let c = quadratic_of before p after in
    leads_by (chord_end (chord_count r c) c 0) (chord_end (chord_count r c) c (chord_count r c)) (start before p) (start p after) (edges_of r before p after) (chords_by r c)
    (curved r before p after is_on) (of_chords (chord_count r c) c (chord_count r c)) (from_start r c ∙ sym (start_off before p is_on))
    (to_end r c ∙ curve_end_on after p is_next ∙ sym (start_on p after is_next))
of_point_by r before p after false false is_on is_next =
    let c = quadratic_of before p after in
    leads_by (chord_end (chord_count r c) c 0) (chord_end (chord_count r c) c (chord_count r c)) (start before p) (start p after) (edges_of r before p after) (chords_by r c)
    (curved r before p after is_on) (of_chords (chord_count r c) c (chord_count r c)) (from_start r c ∙ sym (start_off before p is_on))
    (to_end r c ∙ ap whole_end (curve_end_midway after p is_next is_on) ∙ sym (start_off p after is_next))

along : (r : ChordRule) (before p : PlacedPoint) (ps : List PlacedPoint) (following : PlacedPoint)
    → Leads (start before p) (edges_along r before p ps following) (start (last_of p ps) following)
along r before p [] following = of_point_by r before p following p.on following.on refl refl
along r before p (q ∷ ps) following =
    leads_on (start before p) (start p q) (start (last_of q ps) following) (edges_of r before p q)
    (edges_along r p q ps following) (of_point_by r before p q p.on q.on refl refl) (along r p q ps following)

-- edges joined lead from the first to the last
leads_join : (s t : EdgeEnd) (e : Edge) (fs : List Edge) → Leads s (e ∷ fs) t → Leads s (joined_from e fs) t
leads_join s t e [] leads = leads
leads_join s t e (f ∷ fs) leads = elim (cases_Bool (joins e f)) [
  | inl is ↦ rw is (leads_join s t (join e f) fs (leads.0, leads.1.1))
  | inr other ↦ rw other (leads.0, leads_join (record { x = e.bx; y = e.by }) t f fs leads.1)
]

leads_joined : (r : ChordRule) (s t : EdgeEnd) (es : List Edge) → Leads s es t → Leads s (joined_by r es) t
leads_joined rule.Eight s t es leads = leads
leads_joined rule.ByBend s t [] leads = leads
leads_joined rule.ByBend s t (e ∷ es) leads = leads_join s t e es leads

contour_closed : (r : ChordRule) (ps : List PlacedPoint) → IsClosed (contour_edges r ps)
contour_closed rule.Eight [] = tt
contour_closed rule.ByBend [] = tt
contour_closed rule.Eight (p ∷ []) = tt
contour_closed rule.ByBend (p ∷ []) = tt
contour_closed r (p ∷ q ∷ ps) =
    let s = start (last_of q ps) p in
    let leads : Leads s (contour_chords r (p ∷ q ∷ ps)) s = rw (← contour_whole r p q ps) (along r (last_of q ps) p (q ∷ ps) p) in
    closed s (contour_edges r (p ∷ q ∷ ps)) (leads_joined r s s (contour_chords r (p ∷ q ∷ ps)) leads)

all_of : (f : ℕ → List Edge) → ((c : ℕ) → IsClosed (f c)) → (cs : List ℕ) → All IsClosed (map f cs)
all_of f each [] = λ k d within. absurd (omega (arith, within))
all_of f each (c ∷ cs) = All-cons IsClosed (f c) (map f cs) (each c) (all_of f each cs)

pub all_closed : ContoursAreClosed
all_closed r points ends dx dy =
    all_of (λ c. contour_edges r (contour_at (map (moved dx dy) points) ends c))
    (λ c. contour_closed r (contour_at (map (moved dx dy) points) ends c)) (range_with_len 0 (length ends))
