-- The turns of closed contours cancel out at each height, so the winding is equal from either side.
use Rattle.std.proofs.Common.{◌≡◌, ℕ, zero, suc, Bool, true, false, ◌&&◌, if◌then◌else◌, ℤ, pos, negsuc, neg_ℤ, ◌+ℤ◌, ◌-ℤ◌, ◌*ℤ◌, ◌≤ℤ◌, ◌<ℤ◌, int_lt, int_le, List, [], ◌∷◌, ◌++◌, length, map, inl, inr, refl, sym, ap, ◌∙◌, arith}
use Rattle.std.specs.List.{flat_map, range_with_len}
use Rattle.std.proofs.lemmas.Bool.{cases_Bool}
use Rattle.std.proofs.lemmas.Int.{ints, by_lt_z}
use Rattle.tt_scan_edges.specs.Joined.{join, joined_from, joins}
use Rattle.tt_scan_edges.specs.declared.edge.Edge.{Edge}
use Rattle.tt_scan_edges.specs.Winding.{side, is_zero, is_between, lies_on, lies_on_one, turned, winding}
use Rattle.tt_scan_edges.proofs.Joins.{joint}
use Rattle.tt_scan_edges.proofs.Ranges.{between_turned}
use Rattle.tt_scan_edges.proofs.Sides.{on_rising, side_reversed}
use Rattle.tt_arc.specs.declared.quadratic.Quadratic.{Quadratic}
use Rattle.tt_arc.specs.declared.point.PlacedPoint.{PlacedPoint}
use Rattle.tt_arc.specs.declared.rule.ChordRule.{ChordRule}
use Rattle.tt_arc.specs.declared.rule.ChordRule.TheVariants as rule
use Rattle.tt_arc.specs.Chords.{moved, edge_end_of, curve_end_of, quadratic_of, along_y, chord_count, chord_end, chords_by, edge_between, first_chords, edges_of, contour_chords, joined_by, contour_edges, contour_at, chord_edges}
use Rattle.tt_arc.specs.Laws.{turned_right, winding_right, SidesAgree}
use Rattle.tt_arc.proofs.ChordEnds.{first_place, last_place}
use Rattle.tt_arc.proofs.Walks.{edges_along, last_of, contour_whole}

-- whether a height is above y
abbrev over : ℤ → ℤ → ℤ
over y v = if int_lt y v then pos 1 else pos 0

-- the part of an edge from the left minus its part from the right, by its side s
abbrev from_left : ℤ → ℤ → ℤ → ℤ → ℤ
from_left s ay by y = if int_le ay y && int_lt y by && int_lt s (pos 0) then pos 1 else
    (if int_le by y && int_lt y ay && int_lt (pos 0) s then negsuc 0 else pos 0)

abbrev from_right : ℤ → ℤ → ℤ → ℤ → ℤ
from_right s ay by y = if int_le ay y && int_lt y by && int_lt (pos 0) s then negsuc 0 else
    (if int_le by y && int_lt y ay && int_lt s (pos 0) then pos 1 else pos 0)

rising : (s ay by y : ℤ) → ay ≤ℤ y → y <ℤ by → is_zero s ≡ false → from_left s ay by y -ℤ from_right s ay by y
    ≡ over y by -ℤ over y ay
rising s ay by y low high off = grind (arith, ints)

falling : (s ay by y : ℤ) → by ≤ℤ y → y <ℤ ay → is_zero s ≡ false → from_left s ay by y -ℤ from_right s ay by y
    ≡ over y by -ℤ over y ay
falling s ay by y low high off = grind (arith, ints)

above : (s ay by y : ℤ) → y <ℤ ay → y <ℤ by → from_left s ay by y -ℤ from_right s ay by y ≡ over y by -ℤ over y ay
above s ay by y a b = grind (arith, ints)

below : (s ay by y : ℤ) → ay ≤ℤ y → by ≤ℤ y → from_left s ay by y -ℤ from_right s ay by y ≡ over y by -ℤ over y ay
below s ay by y a b = grind (arith, ints)

-- the difference of both sides, if the place is not on the edge
between_sides : (s ay by y : ℤ) → (ay ≤ℤ y → y <ℤ by → is_zero s ≡ false) → (by ≤ℤ y → y <ℤ ay → is_zero s ≡ false)
    → from_left s ay by y -ℤ from_right s ay by y ≡ over y by -ℤ over y ay
between_sides s ay by y up down =
    by_lt_z y ay
    (λ a. by_lt_z y by (λ b. above s ay by y a b) (λ b. falling s ay by y b a (down b a)))
    (λ a. by_lt_z y by (λ b. rising s ay by y a b (up a b)) (λ b. below s ay by y a b))

off_side : (zero x_within y_within : Bool) → (zero ≡ true → x_within ≡ true) → y_within ≡ true
    → (zero && x_within && y_within) ≡ false → zero ≡ false
off_side false x_within y_within on high off = refl
off_side true x_within y_within on high off = let within = on refl in absurd (grind arith)

zero_negated : (s : ℤ) → is_zero s ≡ true → is_zero (neg_ℤ s) ≡ true
zero_negated s level = grind (arith, ints)

rises_off : (e : Edge) (x y : ℤ) → lies_on e x y ≡ false → e.ay ≤ℤ y → y <ℤ e.by → is_zero (side e x y) ≡ false
rises_off e x y off low high =
    let rises : e.ay <ℤ e.by = omega (arith, ints) in
    let most : y ≤ℤ e.by = omega (arith, ints) in
    let within : is_between e.ay e.by y ≡ true = grind (arith, ints) in
    off_side (is_zero (side e x y)) (is_between e.ax e.bx x) (is_between e.ay e.by y)
    (on_rising e x y rises low most) within off

reversed : Edge → Edge
reversed e = record { ax = e.bx; ay = e.by; bx = e.ax; by = e.ay }

falls_off : (e : Edge) (x y : ℤ) → lies_on e x y ≡ false → e.by ≤ℤ y → y <ℤ e.ay → is_zero (side e x y) ≡ false
unfolding reversed
falls_off e x y off low high =
    let u = reversed e in
    let rises : e.by <ℤ e.ay = omega (arith, ints) in
    let most : y ≤ℤ e.ay = omega (arith, ints) in
    let within : is_between e.ay e.by y ≡ true = grind (arith, ints) in
    let other : side u x y ≡ neg_ℤ (side e x y) = side_reversed e u x y refl refl refl refl in
    let on : is_zero (side e x y) ≡ true → is_between e.ax e.bx x ≡ true = λ level. between_turned e.ax e.bx x
    ∙ on_rising u x y rises low most (rw other (zero_negated (side e x y) level)) in
    off_side (is_zero (side e x y)) (is_between e.ax e.bx x) (is_between e.ay e.by y) on within off

one_edge : (e : Edge) (x y : ℤ) → lies_on e x y ≡ false → turned e x y -ℤ turned_right e x y
    ≡ over y e.by -ℤ over y e.ay
one_edge e x y off = between_sides (side e x y) e.ay e.by y (rises_off e x y off) (falls_off e x y off)

-- the number of edges that come above y, minus the number that come below it
abbrev turns : ℤ → List Edge → ℤ
turns y [] = pos 0
turns y (e ∷ es) = (over y e.by -ℤ over y e.ay) +ℤ turns y es

differ : (es : List Edge) (x y : ℤ) → lies_on_one es x y ≡ false → winding es x y -ℤ winding_right es x y ≡ turns y es
differ [] x y off = refl
differ (e ∷ es) x y off =
    let first : lies_on e x y ≡ false = grind arith in
    let others : lies_on_one es x y ≡ false = grind arith in
    let one = one_edge e x y first in
    let more = differ es x y others in
    omega (arith, ints, one, more)

turns-append : (y : ℤ) (es fs : List Edge) → turns y (es ++ fs) ≡ turns y es +ℤ turns y fs
turns-append y [] fs = omega (arith, ints)
turns-append y (e ∷ es) fs = let more = turns-append y es fs in omega (arith, ints, more)

of_chords : (y : ℤ) (m : ℕ) (c : Quadratic) (n : ℕ) → turns y (first_chords m c n) ≡ over y (chord_end m c n).y -ℤ over y
    (chord_end m c 0).y
unfolding first_chords
of_chords y m c zero = omega (arith, ints)
of_chords y m c (suc k) =
    let more = of_chords y m c k in
    let both = turns-append y (first_chords m c k) (edge_between (chord_end m c k) (chord_end m c (suc k)) ∷ []) in
    omega (arith, ints, more, both)

-- the height of the start of a point's edges
abbrev height : PlacedPoint → PlacedPoint → ℤ
height before p = if p.on then pos 128 *ℤ p.y else pos 64 *ℤ (curve_end_of before p).y

height_on : (before p : PlacedPoint) → p.on ≡ true → height before p ≡ pos 128 *ℤ p.y
height_on before p on = rw on refl

height_off : (before p : PlacedPoint) → p.on ≡ false → height before p ≡ pos 64 *ℤ (curve_end_of before p).y
height_off before p off = rw off refl

curve_end_on : (n p : PlacedPoint) → n.on ≡ true → (curve_end_of n p).y ≡ pos 2 *ℤ n.y
curve_end_on n p on = rw on refl

curve_end_off : (n p : PlacedPoint) → n.on ≡ false → (curve_end_of n p).y ≡ n.y +ℤ p.y
curve_end_off n p off = rw off refl

-- a quadratic ends at the start of the next point's edges
quadratic_ends : (p after : PlacedPoint) (next : Bool) → p.on ≡ false → after.on ≡ next → pos 64 *ℤ (curve_end_of after p).y
    ≡ height p after
quadratic_ends p after true off on =
    let here = curve_end_on after p on in
    let there = height_on p after on in
    omega (arith, ints, here, there)
quadratic_ends p after false off on =
    let here = curve_end_off after p on in
    let there = height_off p after on in
    let other = curve_end_off p after off in
    omega (arith, ints, here, there, other)

pub straight : (r : ChordRule) (before p after : PlacedPoint) → p.on ≡ true → after.on ≡ true → edges_of r before p after ≡ edge_between (edge_end_of p)
    (edge_end_of after) ∷ []
unfolding edges_of
straight r before p after on next = rw (on, next) refl

pub no_edge : (r : ChordRule) (before p after : PlacedPoint) → p.on ≡ true → after.on ≡ false → edges_of r before p after ≡ []
unfolding edges_of
no_edge r before p after on next = rw (on, next) refl

pub curved : (r : ChordRule) (before p after : PlacedPoint) → p.on ≡ false → edges_of r before p after ≡ chords_by r (quadratic_of before p after)
unfolding edges_of
curved r before p after off = rw off refl

between : (y a b c d : ℤ) (es fs : List Edge) → es ≡ fs → turns y fs ≡ over y c -ℤ over y d → c ≡ a → d ≡ b → turns y es
    ≡ over y a -ℤ over y b
between y a b c d es fs same turn is_a is_b = rw (same, ← is_a, ← is_b) turn

one_turn : (y a b : ℤ) → (over y a -ℤ over y b) +ℤ pos 0 ≡ over y a -ℤ over y b
one_turn y a b = omega (arith, ints)

no_turn : (y a : ℤ) → pos 0 ≡ over y a -ℤ over y a
no_turn y a = omega (arith, ints)

of_point_by : (r : ChordRule) (y : ℤ) (before p after : PlacedPoint) (on next : Bool) → p.on ≡ on → after.on ≡ next
    → turns y (edges_of r before p after) ≡ over y (height p after) -ℤ over y (height before p)
of_point_by r y before p after true true is_on is_next =
    between y (height p after) (height before p) (pos 128 *ℤ after.y) (pos 128 *ℤ p.y) (edges_of r before p after)
    (edge_between (edge_end_of p) (edge_end_of after) ∷ []) (straight r before p after is_on is_next)
    (one_turn y (pos 128 *ℤ after.y) (pos 128 *ℤ p.y)) (sym (height_on p after is_next))
    (sym (height_on before p is_on))
of_point_by r y before p after true false is_on is_next =
    let here = height_on before p is_on in
    let there = height_off p after is_next in
    let end = curve_end_on p after is_on in
    let same : height before p ≡ height p after = omega (arith, ints, here, there, end) in
    between y (height p after) (height before p) (height before p) (height before p) (edges_of r before p after) []
    (no_edge r before p after is_on is_next) (no_turn y (height before p)) same refl
of_point_by r y before p after false next is_on is_next =
    let c = quadratic_of before p after in
    let n = chord_count r c in
    let last = last_place r c (along_y c) ∙ quadratic_ends p after next is_on is_next in
    let first = first_place r c (along_y c) ∙ sym (height_off before p is_on) in
    between y (height p after) (height before p) (chord_end n c n).y (chord_end n c 0).y (edges_of r before p after)
    (chords_by r c) (curved r before p after is_on) (of_chords y n c n) last first

of_point : (r : ChordRule) (y : ℤ) (before p after : PlacedPoint) → turns y (edges_of r before p after) ≡ over y (height p after) -ℤ over y
    (height before p)
of_point r y before p after = of_point_by r y before p after p.on after.on refl refl

along : (r : ChordRule) (y : ℤ) (before p : PlacedPoint) (ps : List PlacedPoint) (following : PlacedPoint) → turns y (edges_along r before p ps following)
    ≡ over y (height (last_of p ps) following) -ℤ over y (height before p)
along r y before p [] following = of_point r y before p following
along r y before p (q ∷ ps) following =
    let one = of_point r y before p q in
    let more = along r y p q ps following in
    let both = turns-append y (edges_of r before p q) (edges_along r p q ps following) in
    omega (arith, ints, one, more, both)

-- edges joined turn as far
turn_joint : (y : ℤ) (e f : Edge) (a : ℤ) → joins e f ≡ true
    → (over y e.by -ℤ over y e.ay) +ℤ ((over y f.by -ℤ over y f.ay) +ℤ a) ≡ (over y f.by -ℤ over y e.ay) +ℤ a
turn_joint y e f a is =
    let same = ap (over y) (joint e f is).same_y in
    omega (arith, ints, same)

turns_from : (y : ℤ) (e : Edge) (fs : List Edge) → turns y (joined_from e fs) ≡ turns y (e ∷ fs)
turns_from y e [] = refl
turns_from y e (f ∷ fs) = elim (cases_Bool (joins e f)) [
  | inl is ↦ rw is (turns_from y (join e f) fs ∙ sym (turn_joint y e f (turns y fs) is))
  | inr other ↦ rw other (ap (λ z. (over y e.by -ℤ over y e.ay) +ℤ z) (turns_from y f fs))
]

turns_joined : (r : ChordRule) (y : ℤ) (es : List Edge) → turns y (joined_by r es) ≡ turns y es
turns_joined rule.Eight y es = refl
turns_joined rule.ByBend y [] = refl
turns_joined rule.ByBend y (e ∷ es) = turns_from y e es

round_chords : (r : ChordRule) (y : ℤ) (ps : List PlacedPoint) → turns y (contour_chords r ps) ≡ pos 0
round_chords r y [] = refl
round_chords r y (p ∷ []) = refl
round_chords r y (p ∷ q ∷ ps) =
    let whole = ap (turns y) (sym (contour_whole r p q ps)) in
    let turn = along r y (last_of q ps) p (q ∷ ps) p in
    omega (arith, ints, whole, turn)

round_contour : (r : ChordRule) (y : ℤ) (ps : List PlacedPoint) → turns y (contour_edges r ps) ≡ pos 0
round_contour r y ps = turns_joined r y (contour_chords r ps) ∙ round_chords r y ps

round_all : (r : ChordRule) (y : ℤ) (f : ℕ → List PlacedPoint) (cs : List ℕ) → turns y (flat_map (λ c. contour_edges r (f c)) cs) ≡ pos 0
round_all r y f [] = refl
round_all r y f (c ∷ cs) =
    let one = round_contour r y (f c) in
    let more = round_all r y f cs in
    let both = turns-append y (contour_edges r (f c)) (flat_map (λ c. contour_edges r (f c)) cs) in
    omega (arith, ints, one, more, both)

-- off the edges, the winding is equal from either side
pub both_sides : SidesAgree
both_sides r points ends dx dy x y off =
    let ps = map (moved dx dy) points in
    let turn = round_all r y (λ c. contour_at ps ends c) (range_with_len 0 (length ends)) in
    let by = differ (chord_edges r points ends dx dy) x y off in
    omega (arith, ints, turn, by)
