-- Black pixels lie in the box of the edges: the box of those there is the box of all.
use Rattle.std.proofs.Common.{◌≡◌, refl, ◌⊎◌, inl, inr, Bool, true, false, not, ◌&&◌, ◌||◌, List, [], ◌∷◌, map, ℤ, pos, ◌+ℤ◌, ◌≤ℤ◌, ◌<ℤ◌, int_le, int_lt, All, arith}
use Rattle.std.specs.Int.{int_max, int_min}
use Rattle.std.proofs.lemmas.Bool.{cases_Bool, false≢true}
use Rattle.std.proofs.lemmas.Int.{by_lt_z, clamps, ints}
use Rattle.std.proofs.lemmas.List.Elements.{All-head, All-tail}
use Rattle.tt_scan.specs.Contours.{IsClosed}
use Rattle.tt_scan_edges.specs.Winding.{is_between, is_black, is_zero, lies_on, lies_on_one, side, winding}
use Rattle.tt_scan_edges.specs.declared.edge.Edge.{Edge}
use Rattle.tt_scan_gaps.specs.Crossings.{centre}
use Rattle.tt_scan_gaps.specs.Boxes.{EdgeWithin, columns_in, columns_of, greatest_x, is_column_of, least_x, rows_in}
use Rattle.tt_scan_gaps.specs.Seen.{turned_round}
use Rattle.tt_scan_dropouts.specs.Dropouts.{columns_of_rules, edges_of, is_dropout, is_inked, rows_of_rules}
use Rattle.tt_scan_gaps.specs.declared.mark.Columns.{Columns}
use Rattle.tt_scan_dropouts.proofs.InBox.{IsColumnOf, LiesInBox, LiesInBoxOf, edges_turned, edges_within, line_within, turned_twice}
use Rattle.tt_scan_dropouts.proofs.Reached.{dropout_reached}
use Rattle.tt_scan_dropouts.proofs.TurnedWinding.{round_all}
use Rattle.tt_scan_ink.specs.Ink.{count_of, ink_in}
use Rattle.tt_scan_ink.specs.Laws.{DropoutsInkHoldsAll, EdgesInkHoldsAll}
use Rattle.tt_bitmap.specs.Inks.{IsInk}
use Rattle.tt_scan_ink.specs.Least.{shown}
use Rattle.tt_scan_ink.proofs.Near.{InOrder, between_order, columns_order, one_more_order}
use Rattle.tt_scan_ink.proofs.Regions.{counted, ink_is}
use Rattle.tt_scan_ink.proofs.Together.{ink_alike}

-- a box without black pixels outside

inside : (a b black : Bool) → (black ≡ true → (a ≡ true) × (b ≡ true)) → black ≡ (a && (b && black))
inside a b true within = let both = within refl in rw (both.0, both.1) refl
inside true true false within = refl
inside true false false within = refl
inside false b false within = refl

is_column : (b : Columns) (c : ℤ) → IsColumnOf b c → is_column_of b c ≡ true
is_column b c h =
    let first = h.first in
    let last = h.last in
    grind (arith, ints, first, last)

all_held : (black : ℤ → ℤ → Bool) (columns rows : Columns) → InOrder columns → InOrder rows
    → ((c j : ℤ) → black c j ≡ true → LiesInBox columns rows c j) → IsInk black (ink_in black columns rows)
all_held black columns rows across up within =
    ink_alike (shown columns rows.first (count_of rows) black) black (ink_in black columns rows)
    (λ c j. rw (counted rows j up)
    (inside (is_column_of columns c) (is_column_of rows j) (black c j) (λ is.
    let at = within c j is in (is_column columns c at.column, is_column rows j at.row))))
    (ink_is black columns rows across)

pub dropouts_held : DropoutsInkHoldsAll
dropouts_held rules contours held =
    let b = rules.extents in
    all_held (is_dropout rules contours) (columns_of_rules rules) (rows_of_rules rules)
    (one_more_order rules.rules.dots (columns_in b) (between_order b.across.low b.across.high))
    (one_more_order rules.rules.dots (rows_in b) (between_order b.up.low b.up.high)) (λ c j is. dropout_reached rules contours c j held is)

-- on an edge

between : (a b z l r : ℤ) → is_between a b z ≡ true → l ≤ℤ int_min a b → int_max a b ≤ℤ r → (l ≤ℤ z) × (z ≤ℤ r)
between a b z l r is low high =
    by_lt_z a b
    (λ up.
    let from : a ≤ℤ z = grind (arith, ints, up) in
    let to : z ≤ℤ b = grind (arith, ints, up) in
    (omega (arith, ints, clamps, from, low), omega (arith, ints, clamps, to, high)))
    (λ down.
    let from : b ≤ℤ z = grind (arith, ints, down) in
    let to : z ≤ℤ a = grind (arith, ints, down) in
    (omega (arith, ints, clamps, from, low), omega (arith, ints, clamps, to, high)))

-- a point lies between four places
record LiesWithin (l r b t x y : ℤ) : Type 0 where
  across : (l ≤ℤ x) × (x ≤ℤ r)
  up : (b ≤ℤ y) × (y ≤ℤ t)

second : (a b c : Bool) → (a && b && c) ≡ true → b ≡ true
second true true c is = refl
second true false c is = absurd cc
second false b c is = absurd cc

third : (a b c : Bool) → (a && b && c) ≡ true → c ≡ true
third true true true is = refl
third true true false is = is
third true false c is = absurd cc
third false b c is = absurd cc

one_of_two : (a b : Bool) → (a || b) ≡ true → (a ≡ true) ⊎ (b ≡ true)
one_of_two true b is = inl refl
one_of_two false b is = inr is

on_within : (l r b t : ℤ) (es : List Edge) (x y : ℤ) → All (EdgeWithin l r b t) es → lies_on_one es x y ≡ true
    → LiesWithin l r b t x y
on_within l r b t [] x y all is = absurd (false≢true is)
on_within l r b t (e ∷ es) x y all is = elim (one_of_two (lies_on e x y) (lies_on_one es x y) is) [
  | inl here ↦
      let at = All-head (EdgeWithin l r b t) e es all in
      record {
        across = between e.ax e.bx x l r
            (second (is_zero (side e x y)) (is_between e.ax e.bx x) (is_between e.ay e.by y) here) at.left at.right;
        up = between e.ay e.by y b t
            (third (is_zero (side e x y)) (is_between e.ax e.bx x) (is_between e.ay e.by y) here) at.bottom at.top;
      }
  | inr there ↦ on_within l r b t es x y (All-tail (EdgeWithin l r b t) e es all) there
]

-- inside: no edge turns above all ends or below them

off_end : (a s : Bool) → (a && false && s) ≡ false
off_end true s = refl
off_end false s = refl

none_below : (l r b t : ℤ) (es : List Edge) (x y : ℤ) → All (EdgeWithin l r b t) es → y <ℤ b → winding es x y ≡ pos 0
none_below l r b t [] x y all under = refl
none_below l r b t (e ∷ es) x y all under =
    let at = All-head (EdgeWithin l r b t) e es all in
    let low = at.bottom in
    let start_over : y <ℤ e.ay = omega (arith, ints, clamps, low, under) in
    let end_over : y <ℤ e.by = omega (arith, ints, clamps, low, under) in
    let start : int_le e.ay y ≡ false = grind (arith, ints, start_over) in
    let end : int_le e.by y ≡ false = grind (arith, ints, end_over) in
    let rest = none_below l r b t es x y (All-tail (EdgeWithin l r b t) e es all) under in
    rw (start, end, rest) refl

none_above : (l r b t : ℤ) (es : List Edge) (x y : ℤ) → All (EdgeWithin l r b t) es → t <ℤ y → winding es x y ≡ pos 0
none_above l r b t [] x y all over = refl
none_above l r b t (e ∷ es) x y all over =
    let at = All-head (EdgeWithin l r b t) e es all in
    let high = at.top in
    let start_under : e.ay ≤ℤ y = omega (arith, ints, clamps, high, over) in
    let end_under : e.by ≤ℤ y = omega (arith, ints, clamps, high, over) in
    let start : int_lt y e.ay ≡ false = grind (arith, ints, start_under) in
    let end : int_lt y e.by ≡ false = grind (arith, ints, end_under) in
    let rest = none_above l r b t es x y (All-tail (EdgeWithin l r b t) e es all) over in
    let rises = off_end (int_le e.ay y) (int_lt (side e x y) (pos 0)) in
    let falls = off_end (int_le e.by y) (int_lt (pos 0) (side e x y)) in
    rw (start, end, rises, falls, rest) refl

within_heights : (p : ℤ) (es : List Edge) (x y : ℤ) → (winding es x y ≡ pos 0 → false ≡ true)
    → (least_x p (map turned_round es) ≤ℤ y) × (y ≤ℤ greatest_x p (map turned_round es))
within_heights p es x y round =
    let l = least_x p es in
    let r = greatest_x p es in
    let b = least_x p (map turned_round es) in
    let t = greatest_x p (map turned_round es) in
    let all = edges_within p p es in
    by_lt_z y b (λ under. absurd (false≢true (round (none_below l r b t es x y all under))))
    (λ above. by_lt_z t y (λ over. absurd (false≢true (round (none_above l r b t es x y all over))))
    (λ below. (above, below)))

-- closed contours

in_box : (es : List Edge) (c j : ℤ) → is_black es (centre c) (centre j) ≡ true
    → ((p : ℤ) → (least_x p es ≤ℤ centre c) × (centre c ≤ℤ greatest_x p es))
    → ((p : ℤ) → (least_x p (map turned_round es) ≤ℤ centre j) × (centre j ≤ℤ greatest_x p (map turned_round es)))
    → LiesInBoxOf es c j
in_box [] c j is across up = absurd (false≢true is)
in_box (e ∷ es) c j is across up =
    let width = across e.ax in
    let height = up e.ay in
    record {
      column = line_within (least_x e.ax (e ∷ es)) (greatest_x e.ax (e ∷ es)) c width.0 width.1;
      row = line_within (least_x e.ay (map turned_round (e ∷ es))) (greatest_x e.ay (map turned_round (e ∷ es))) j
          height.0 height.1;
    }

on_in_box : (es : List Edge) (c j : ℤ) → lies_on_one es (centre c) (centre j) ≡ true → LiesInBoxOf es c j
on_in_box es c j on =
    let at : (p : ℤ) → LiesWithin (least_x p es) (greatest_x p es) (least_x p (map turned_round es))
    (greatest_x p (map turned_round es)) (centre c) (centre j) =
    λ p. on_within (least_x p es) (greatest_x p es) (least_x p (map turned_round es))
    (greatest_x p (map turned_round es)) es (centre c) (centre j) (edges_within p p es) on in
    in_box es c j (rw on refl) (λ p. (at p).across) (λ p. (at p).up)

not_zero : (w : ℤ) → not (is_zero w) ≡ true → w ≡ pos 0 → false ≡ true
not_zero w is zero = rw zero at is

round_in_box : (contours : List (List Edge)) (c j : ℤ) → All IsClosed contours
    → lies_on_one (edges_of contours) (centre c) (centre j) ≡ false → is_inked contours c j ≡ true
    → LiesInBoxOf (edges_of contours) c j
round_in_box contours c j closed off is =
    let es = edges_of contours in
    let x = centre c in
    let y = centre j in
    let round : not (is_zero (winding es x y)) ≡ true = rw off at is in
    let both : winding es x y +ℤ winding (map turned_round es) y x ≡ pos 0 =
    rw (edges_turned contours) at (round_all contours x y closed off) in
    let other : winding (map turned_round es) y x ≡ pos 0 → false ≡ true =
    λ none. not_zero (winding es x y) round (omega (arith, ints, both, none)) in
    in_box es c j is
    (λ p. rw (turned_twice es) at (within_heights p (map turned_round es) y x other))
    (λ p. within_heights p es x y (not_zero (winding es x y) round))

inked_in_box : (contours : List (List Edge)) → All IsClosed contours → (c j : ℤ) → is_inked contours c j ≡ true
    → LiesInBoxOf (edges_of contours) c j
inked_in_box contours closed c j is = elim (cases_Bool (lies_on_one (edges_of contours) (centre c) (centre j))) [
  | inl on ↦ on_in_box (edges_of contours) c j on
  | inr off ↦ round_in_box contours c j closed off is
]

pub edges_held : EdgesInkHoldsAll
edges_held contours closed =
    let es = edges_of contours in
    all_held (is_inked contours) (columns_of es) (columns_of (map turned_round es)) (columns_order es)
    (columns_order (map turned_round es)) (inked_in_box contours closed)
