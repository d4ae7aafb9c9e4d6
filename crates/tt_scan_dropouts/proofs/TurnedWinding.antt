-- Closed contours go round a point off all of them as often as they go the other way round it with x and y exchanged.
-- So a free gap of a column is crossed both ways or not at all.
use Rattle.std.proofs.Common.{◌≡◌, refl, sym, ap₂, ◌∙◌, Bool, true, false, not, ◌&&◌, ◌||◌, List, [], ◌∷◌, ◌++◌, map, arith}
use Rattle.std.specs.Prelude.{ℤ, pos, negsuc, ◌+ℤ◌, int_le, int_lt, neg_ℤ, if◌then◌else◌, All}
use Rattle.std.proofs.lemmas.Int.{ints}
use Rattle.std.proofs.lemmas.List.Elements.{All-head, All-tail}
use Rattle.tt_scan.specs.Contours.{GoesRound, IsClosed}
use Rattle.tt_scan_edges.specs.Winding.{lies_on, lies_on_one, side, turned, winding}
use Rattle.tt_scan_edges.specs.declared.edge.Edge.{Edge}
use Rattle.tt_scan_edges.proofs.Bools.{or_or}
use Rattle.tt_scan_edges.proofs.Crosses.{turned_at}
use Rattle.tt_scan_gaps.specs.Crossings.{centre}
use Rattle.tt_scan_gaps.specs.Seen.{turned_round}
use Rattle.tt_scan_dropouts.specs.Dropouts.{edges_of, is_inked, outline_turned}
use Rattle.tt_scan_dropouts.specs.Laws.{ColumnsCrossedBothWays}
use Rattle.tt_scan_dropouts.proofs.BothWays.{both_ways, free, one_if, white}
use Rattle.tt_scan_dropouts.proofs.EdgeSides.{Known, known}

-- the summand of an edge in a winding, by whether its ends lie below the point, and on which side of it the point lies
abbrev turn : Bool → Bool → Bool → Bool → ℤ
turn q v right left = if q && not v && right then pos 1 else (if v && not q && left then negsuc 0 else pos 0)

not_most : (a b : ℤ) → int_lt a b ≡ not (int_le b a)
not_most a b = grind (arith, ints)

turned_is : (ay by y s : ℤ) → turned_at ay by y s
    ≡ turn (int_le ay y) (int_le by y) (int_lt s (pos 0)) (int_lt (pos 0) s)
turned_is ay by y s = rw (not_most y by, not_most y ay) refl

-- with x and y exchanged the point lies on the other side
side_round : (e : Edge) (x y : ℤ) → side (turned_round e) y x ≡ neg_ℤ (side e x y)
side_round e x y = omega (arith, ints)

turned_back : (ax bx x s z : ℤ) → z ≡ neg_ℤ s
    → turned_at ax bx x z ≡ turn (int_le ax x) (int_le bx x) (int_lt (pos 0) s) (int_lt s (pos 0))
turned_back ax bx x s z is =
    let right : int_lt z (pos 0) ≡ int_lt (pos 0) s = grind (arith, ints) in
    let left : int_lt (pos 0) z ≡ int_lt s (pos 0) = grind (arith, ints) in
    rw (turned_is ax bx x z, right, left) refl

-- 1 where a place lies left of a point and below it, or level with it. The summands of an edge in both windings
-- together are this number of its start, less that of its end
abbrev corner : ℤ → ℤ → ℤ → ℤ → ℤ
corner x y px py = pos (one_if (int_le px x && int_le py y))

by_ends : (p q u v right left : Bool) → Known p q u v right left
    → (turn q v right left +ℤ turn p u left right) +ℤ pos (one_if (u && v)) ≡ pos (one_if (p && q))
by_ends true true true false right left is = rw is refl
by_ends true false true true right left is = rw is refl
by_ends false true false false right left is = rw is refl
by_ends false false false true right left is = rw is refl
by_ends true true false true right left is = rw is refl
by_ends false true true true right left is = rw is refl
by_ends true false false false right left is = rw is refl
by_ends false false true false right left is = rw is refl
by_ends true true false false true left is = rw (← is) refl
by_ends true true false false false left is = rw (← is) refl
by_ends false false true true true left is = rw (← is) refl
by_ends false false true true false left is = rw (← is) refl
by_ends true true true true right left is = refl
by_ends true false true false right left is = refl
by_ends false true false true right left is = refl
by_ends false false false false right left is = refl
by_ends true false false true right true is = refl
by_ends true false false true right false is = refl
by_ends false true true false true left is = refl
by_ends false true true false false left is = refl

one_edge : (e : Edge) (x y : ℤ) → lies_on e x y ≡ false
    → (turned e x y +ℤ turned (turned_round e) y x) +ℤ corner x y e.bx e.by ≡ corner x y e.ax e.ay
one_edge e x y off =
    let s = side e x y in
    ap₂ (λ a b. (a +ℤ b) +ℤ corner x y e.bx e.by) (turned_is e.ay e.by y s)
    (turned_back e.ax e.bx x s (side (turned_round e) y x) (side_round e x y))
    ∙ by_ends (int_le e.ax x) (int_le e.ay y) (int_le e.bx x) (int_le e.by y) (int_lt s (pos 0)) (int_lt (pos 0) s)
    (known e x y off)

-- round a contour

neither_of : (a b : Bool) → (a || b) ≡ false → (a ≡ false) × (b ≡ false)
neither_of true b is = absurd cc
neither_of false b is = (refl, is)

sum_up : (t w u v first next here last : ℤ) → (t +ℤ u) +ℤ next ≡ here → (w +ℤ v) +ℤ first ≡ next → last ≡ here
    → ((t +ℤ w) +ℤ (u +ℤ v)) +ℤ first ≡ last
sum_up t w u v first next here last one more meets = omega (arith, ints)

cancelled : (a b : ℤ) → a +ℤ b ≡ b → a ≡ pos 0
cancelled a b is = omega (arith, ints)

along : (e : Edge) (es : List Edge) (first : Edge) (x y : ℤ) → GoesRound e es first → lies_on_one es x y ≡ false
    → (winding es x y +ℤ winding (map turned_round es) y x) +ℤ corner x y first.ax first.ay ≡ corner x y e.bx e.by
along e [] first x y round off = rw (round.0, round.1) (omega (arith, ints))
along e (f ∷ es) first x y round off =
    let parts = neither_of (lies_on f x y) (lies_on_one es x y) off in
    let one = one_edge f x y parts.0 in
    let more = along f es first x y round.1 parts.1 in
    let meets : corner x y e.bx e.by ≡ corner x y f.ax f.ay = rw (round.0.0, round.0.1) refl in
    sum_up (turned f x y) (winding es x y) (turned (turned_round f) y x) (winding (map turned_round es) y x) _ _ _ _
    one more meets

round_one : (es : List Edge) (x y : ℤ) → IsClosed es → lies_on_one es x y ≡ false
    → winding es x y +ℤ winding (map turned_round es) y x ≡ pos 0
round_one [] x y round off = refl
round_one (e ∷ es) x y round off =
    let parts = neither_of (lies_on e x y) (lies_on_one es x y) off in
    let one = one_edge e x y parts.0 in
    let more = along e es e x y round parts.1 in
    cancelled _ (corner x y e.ax e.ay)
    (sum_up (turned e x y) (winding es x y) (turned (turned_round e) y x) (winding (map turned_round es) y x) _ _ _ _
    one more refl)

-- round all of them

winding_append : (es fs : List Edge) (x y : ℤ) → winding (es ++ fs) x y ≡ winding es x y +ℤ winding fs x y
winding_append [] fs x y = omega (arith, ints)
winding_append (e ∷ es) fs x y = let more = winding_append es fs x y in omega (arith, ints)

on_append : (es fs : List Edge) (x y : ℤ) → lies_on_one (es ++ fs) x y ≡ (lies_on_one es x y || lies_on_one fs x y)
on_append [] fs x y = refl
on_append (e ∷ es) fs x y =
    rw (on_append es fs x y) (or_or (lies_on e x y) (lies_on_one es x y) (lies_on_one fs x y))

pub round_all : (contours : List (List Edge)) (x y : ℤ) → All IsClosed contours
    → lies_on_one (edges_of contours) x y ≡ false
    → winding (edges_of contours) x y +ℤ winding (edges_of (outline_turned contours)) y x ≡ pos 0
round_all [] x y round off = refl
round_all (es ∷ contours) x y round off =
    let parts = neither_of (lies_on_one es x y) (lies_on_one (edges_of contours) x y)
    (sym (on_append es (edges_of contours) x y) ∙ off) in
    let here = round_one es x y (All-head IsClosed es contours round) parts.0 in
    let rest = round_all contours x y (All-tail IsClosed es contours round) parts.1 in
    let one = winding_append es (edges_of contours) x y in
    let other = winding_append (map turned_round es) (edges_of (outline_turned contours)) y x in
    omega (arith, ints, here, rest, one, other)

pub columns_crossed : ColumnsCrossedBothWays
columns_crossed contours c j round is =
    let two = free (λ j c. is_inked contours c j) j c is in
    let low = white (edges_of contours) (centre c) (centre j) two.0 in
    let high = white (edges_of contours) (centre c) (centre (j +ℤ pos 1)) two.1 in
    let below = round_all contours (centre c) (centre j) round low.0 in
    let above = round_all contours (centre c) (centre (j +ℤ pos 1)) round high.0 in
    both_ways (edges_of (outline_turned contours)) c j (omega (arith, ints, below, low.1))
    (omega (arith, ints, above, high.1))
