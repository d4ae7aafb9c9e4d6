-- Closed contours blacken nothing outside a box that holds their edges.
use Rattle.std.proofs.Common.{◌≡◌, refl, ◌⊎◌, inl, inr, Bool, true, false, not, ◌&&◌, ◌||◌, List, [], ◌∷◌, map, ℤ, pos, ◌+ℤ◌, ◌≤ℤ◌, ◌<ℤ◌, int_le, int_lt, All, arith}
use Rattle.std.specs.Int.{int_max, int_min}
use Rattle.std.proofs.lemmas.Bool.{cases_Bool, false≢true}
use Rattle.std.proofs.lemmas.Int.{by_lt_z, clamps, ints}
use Rattle.std.proofs.lemmas.List.Elements.{All-head, All-tail}
use Rattle.tt_scan.specs.Contours.{IsClosed}
use Rattle.tt_scan_edges.specs.Winding.{is_between, is_zero, lies_on, lies_on_one, side, winding}
use Rattle.tt_scan_edges.specs.declared.edge.Edge.{Edge}
use Rattle.tt_scan_gaps.specs.Boxes.{EdgeWithin, HoldsEdges}
use Rattle.tt_scan_gaps.specs.Crossings.{centre}
use Rattle.tt_scan_gaps.specs.Seen.{turned_round}
use Rattle.tt_scan_gaps.specs.declared.extent.Extents.{Extents}
use Rattle.tt_scan_dropouts.specs.Dropouts.{edges_of, is_inked}
use Rattle.tt_scan_dropouts.proofs.InBox.{LiesInExtents, edges_turned, held_turned, line_within}
use Rattle.tt_scan_dropouts.proofs.TurnedWinding.{round_all}

-- on an edge

between : (a b z l r : ℤ) → is_between a b z ≡ true → l ≤ℤ int_min a b → int_max a b ≤ℤ r → (l ≤ℤ z) × (z ≤ℤ r)
between a b z l r is low high =
    by_lt_z a b
    (λ up.
    let from : a ≤ℤ z = grind (arith, ints, up) in
    let to : z ≤ℤ b = grind (arith, ints, up) in
    (omega (arith, ints, clamps, from, low), omega (arith, ints, clamps, to, high)))
    (λ down.
    let from : b ≤ℤ z = grind (arith, ints, down) in
    let to : z ≤ℤ a = grind (arith, ints, down) in
    (omega (arith, ints, clamps, from, low), omega (arith, ints, clamps, to, high)))

-- a point lies between four places
pub record LiesWithin (l r b t x y : ℤ) : Type 0 where
  pub across : (l ≤ℤ x) × (x ≤ℤ r)
  pub up : (b ≤ℤ y) × (y ≤ℤ t)

second : (a b c : Bool) → (a && b && c) ≡ true → b ≡ true
second true true c is = refl
second true false c is = absurd cc
second false b c is = absurd cc

third : (a b c : Bool) → (a && b && c) ≡ true → c ≡ true
third true true true is = refl
third true true false is = is
third true false c is = absurd cc
third false b c is = absurd cc

one_of_two : (a b : Bool) → (a || b) ≡ true → (a ≡ true) ⊎ (b ≡ true)
one_of_two true b is = inl refl
one_of_two false b is = inr is

pub on_within : (l r b t : ℤ) (es : List Edge) (x y : ℤ) → All (EdgeWithin l r b t) es → lies_on_one es x y ≡ true
    → LiesWithin l r b t x y
on_within l r b t [] x y all is = absurd (false≢true is)
on_within l r b t (e ∷ es) x y all is = elim (one_of_two (lies_on e x y) (lies_on_one es x y) is) [
  | inl here ↦
      let at = All-head (EdgeWithin l r b t) e es all in
      record {
        across = between e.ax e.bx x l r
            (second (is_zero (side e x y)) (is_between e.ax e.bx x) (is_between e.ay e.by y) here) at.left at.right;
        up = between e.ay e.by y b t
            (third (is_zero (side e x y)) (is_between e.ax e.bx x) (is_between e.ay e.by y) here) at.bottom at.top;
      }
  | inr there ↦ on_within l r b t es x y (All-tail (EdgeWithin l r b t) e es all) there
]

-- inside: no edge turns above all ends or below them

off_end : (a s : Bool) → (a && false && s) ≡ false
off_end true s = refl
off_end false s = refl

pub none_below : (l r b t : ℤ) (es : List Edge) (x y : ℤ) → All (EdgeWithin l r b t) es → y <ℤ b → winding es x y ≡ pos 0
none_below l r b t [] x y all under = refl
none_below l r b t (e ∷ es) x y all under =
    let at = All-head (EdgeWithin l r b t) e es all in
    let low = at.bottom in
    let start_over : y <ℤ e.ay = omega (arith, ints, clamps, low, under) in
    let end_over : y <ℤ e.by = omega (arith, ints, clamps, low, under) in
    let start : int_le e.ay y ≡ false = grind (arith, ints, start_over) in
    let end : int_le e.by y ≡ false = grind (arith, ints, end_over) in
    let rest = none_below l r b t es x y (All-tail (EdgeWithin l r b t) e es all) under in
    rw (start, end, rest) refl

pub none_above : (l r b t : ℤ) (es : List Edge) (x y : ℤ) → All (EdgeWithin l r b t) es → t <ℤ y → winding es x y ≡ pos 0
none_above l r b t [] x y all over = refl
none_above l r b t (e ∷ es) x y all over =
    let at = All-head (EdgeWithin l r b t) e es all in
    let high = at.top in
    let start_under : e.ay ≤ℤ y = omega (arith, ints, clamps, high, over) in
    let end_under : e.by ≤ℤ y = omega (arith, ints, clamps, high, over) in
    let start : int_lt y e.ay ≡ false = grind (arith, ints, start_under) in
    let end : int_lt y e.by ≡ false = grind (arith, ints, end_under) in
    let rest = none_above l r b t es x y (All-tail (EdgeWithin l r b t) e es all) over in
    let rises = off_end (int_le e.ay y) (int_lt (side e x y) (pos 0)) in
    let falls = off_end (int_le e.by y) (int_lt (pos 0) (side e x y)) in
    rw (start, end, rises, falls, rest) refl

pub within_heights : (l r b t : ℤ) (es : List Edge) (x y : ℤ) → All (EdgeWithin l r b t) es
    → (winding es x y ≡ pos 0 → false ≡ true) → (b ≤ℤ y) × (y ≤ℤ t)
within_heights l r b t es x y all round =
    by_lt_z y b (λ under. absurd (false≢true (round (none_below l r b t es x y all under))))
    (λ above. by_lt_z t y (λ over. absurd (false≢true (round (none_above l r b t es x y all over))))
    (λ below. (above, below)))

pub not_zero : (w : ℤ) → not (is_zero w) ≡ true → w ≡ pos 0 → false ≡ true
not_zero w is zero = rw zero at is

on_in_extents : (b : Extents) (es : List Edge) (c j : ℤ) → HoldsEdges b es → lies_on_one es (centre c) (centre j) ≡ true
    → LiesInExtents b c j
on_in_extents b es c j held on =
    let at = on_within b.across.low b.across.high b.up.low b.up.high es (centre c) (centre j) held on in
    let across = at.across in
    let up = at.up in
    record {
      column = line_within b.across.low b.across.high c across.0 across.1;
      row = line_within b.up.low b.up.high j up.0 up.1;
    }

round_in_extents : (b : Extents) (contours : List (List Edge)) (c j : ℤ) → All IsClosed contours
    → HoldsEdges b (edges_of contours) → lies_on_one (edges_of contours) (centre c) (centre j) ≡ false
    → is_inked contours c j ≡ true → LiesInExtents b c j
round_in_extents b contours c j closed held off is =
    let es = edges_of contours in
    let x = centre c in
    let y = centre j in
    let round : not (is_zero (winding es x y)) ≡ true = rw off at is in
    let both : winding es x y +ℤ winding (map turned_round es) y x ≡ pos 0 =
    rw (edges_turned contours) at (round_all contours x y closed off) in
    let other : winding (map turned_round es) y x ≡ pos 0 → false ≡ true =
    λ none. not_zero (winding es x y) round (omega (arith, ints, both, none)) in
    let across = within_heights b.up.low b.up.high b.across.low b.across.high (map turned_round es) y x (held_turned b es held) other in
    let up = within_heights b.across.low b.across.high b.up.low b.up.high es x y held (not_zero (winding es x y) round) in
    record {
      column = line_within b.across.low b.across.high c across.0 across.1;
      row = line_within b.up.low b.up.high j up.0 up.1;
    }

pub inked_in_extents : (b : Extents) (contours : List (List Edge)) → All IsClosed contours → HoldsEdges b (edges_of contours)
    → (c j : ℤ) → is_inked contours c j ≡ true → LiesInExtents b c j
inked_in_extents b contours closed held c j is =
    elim (cases_Bool (lies_on_one (edges_of contours) (centre c) (centre j))) [
      | inl on ↦ on_in_extents b (edges_of contours) c j held on
      | inr off ↦ round_in_extents b contours c j closed held off is
    ]
