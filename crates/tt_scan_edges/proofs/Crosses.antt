-- The crossing of an edge with a height, for each kind of edge.
use Rattle.std.proofs.Common.{◌≡◌, ℕ, ap, sym, ◌∙◌, Bool, true, false, ◌&&◌, Option, Some, None, refl, arith}
use Rattle.std.specs.Prelude.{ℤ, pos, negsuc, ◌+ℤ◌, ◌-ℤ◌, ◌*ℤ◌, neg_ℤ, ◌≤ℤ◌, ◌<ℤ◌, int_lt, int_le, if◌then◌else◌, IfSome}
use Rattle.std.specs.Int.{int_min, int_max}
use Rattle.std.proofs.lemmas.Int.{ints}
use Rattle.tt_scan_edges.specs.declared.edge.Cross.{Cross}
use Rattle.tt_scan_edges.specs.declared.edge.Edge.{Edge}
use Rattle.tt_scan_edges.specs.Crossing.{spans, IsCross}
use Rattle.tt_scan_edges.specs.Winding.{column_x, side, is_zero, is_between, lies_on}
use Rattle.tt_scan_edges.proofs.Ranges.{between_turned, between_from}
use Rattle.tt_scan_edges.proofs.Sides.{on_rising, side_level, side_reversed}

-- the turn of an edge for a point on the side s
abbrev pub turned_at : ℤ → ℤ → ℤ → ℤ → ℤ
turned_at ay by y s =
    if int_le ay y && int_lt y by && int_lt s (pos 0) then pos 1
    else (if int_le by y && int_lt y ay && int_lt (pos 0) s then negsuc 0 else pos 0)

pub third_false : (a b c : Bool) → c ≡ false → (a && b && c) ≡ false
third_false true true c h = h
third_false true false c h = refl
third_false false b c h = refl

first_alone : (a b c : Bool) → (a ≡ true → b ≡ true) → c ≡ true → (a && b && c) ≡ a
first_alone true b c f h = let s = f refl in cc
first_alone false b c f h = refl

either_zero : (b : Bool) (z : ℤ) → z ≡ pos 0 → pos 0 ≡ (if b then z else pos 0)
either_zero true z e = sym e
either_zero false z e = refl

-- an edge whose range of heights does not include this height

no_turn : (ay by y : ℤ) → is_between ay by y ≡ false → (if int_le ay y && int_lt y by then pos 1 else (if int_le by y && int_lt y ay then negsuc 0 else pos 0)) ≡ pos 0
no_turn ay by y off = grind (arith, ints)

pub no_turned : (ay by y s : ℤ) → is_between ay by y ≡ false → turned_at ay by y s ≡ pos 0
no_turned ay by y s off = grind (arith, ints)

order_none : (t : Option (ℤ × ℤ)) → t ≡ None → IfSome t (λ t. t.0 ≤ℤ t.1)
order_none None e = tt
order_none (Some t) e = absurd (cc)

-- an edge whose range of heights includes this height

pub from_lower : (ay by y : ℤ) → ay <ℤ by → is_between ay by y ≡ true → ay ≤ℤ y
from_lower ay by y rises on = grind (arith, ints)

pub to_upper : (ay by y : ℤ) → ay <ℤ by → is_between ay by y ≡ true → y ≤ℤ by
to_upper ay by y rises on = grind (arith, ints)

pub from_lower_turned : (ay by y : ℤ) → by <ℤ ay → is_between ay by y ≡ true → by ≤ℤ y
from_lower_turned ay by y falls on = grind (arith, ints)

pub to_upper_turned : (ay by y : ℤ) → by <ℤ ay → is_between ay by y ≡ true → y ≤ℤ ay
to_upper_turned ay by y falls on = grind (arith, ints)

pub level_here : (ay by y : ℤ) → ay ≡ by → is_between ay by y ≡ true → y ≡ ay
level_here ay by y level on = grind (arith, ints)

pub apart_cross : (e : Edge) (m : ℕ) (y : ℤ) (r : Cross) → is_between e.ay e.by y ≡ false → r.touch ≡ None → r.turn ≡ pos 0 → r.first ≡ pos 0 → IsCross e m y r
apart_cross e m y r off none turn first = record {
  touch = λ c. third_false (is_zero (side e (column_x m c) y)) (is_between e.ax e.bx (column_x m c)) (is_between e.ay e.by y) off ∙ ap (λ t. spans t c) (sym none);
  touched = order_none r.touch none;
  turn = turn ∙ sym (no_turn e.ay e.by y off);
  right = λ c. no_turned e.ay e.by y (side e (column_x m c) y) off ∙ either_zero (int_le r.first c) r.turn turn;
  still = λ _. first;
}

-- an edge from its lower end to its upper, at a height of its range; `column` is the last with a centre not right of it

on_edge : (e : Edge) (m : ℕ) (y c : ℤ) (here : Bool) → e.ay <ℤ e.by → e.ay ≤ℤ y → y ≤ℤ e.by → is_zero (side e (column_x m c) y) ≡ here → lies_on e (column_x m c) y ≡ here
on_edge e m y c here rises low high is =
    first_alone (is_zero (side e (column_x m c) y)) (is_between e.ax e.bx (column_x m c)) (is_between e.ay e.by y) (on_rising e (column_x m c) y rises low high) (grind (arith, ints)) ∙ is

up_turn : (ay by y : ℤ) → ay ≤ℤ y → y <ℤ by → pos 1 ≡ (if int_le ay y && int_lt y by then pos 1 else (if int_le by y && int_lt y ay then negsuc 0 else pos 0))
up_turn ay by y low high = grind (arith, ints)

up_turned : (ay by y s column c : ℤ) → ay ≤ℤ y → y <ℤ by → int_lt s (pos 0) ≡ int_lt column c → turned_at ay by y s ≡ (if int_le (column +ℤ pos 1) c then pos 1 else pos 0)
up_turned ay by y s column c low high right = grind (arith, ints)

pub rising_cross : (e : Edge) (m : ℕ) (y : ℤ) (r : Cross) (column : ℤ) (here : ℤ → Bool) → e.ay ≤ℤ y → y <ℤ e.by
    → ((c : ℤ) → is_zero (side e (column_x m c) y) ≡ here c) → ((c : ℤ) → int_lt (side e (column_x m c) y) (pos 0) ≡ int_lt column c)
    → ((c : ℤ) → spans r.touch c ≡ here c) → IfSome r.touch (λ t. t.0 ≤ℤ t.1) → r.turn ≡ pos 1 → r.first ≡ column +ℤ pos 1 → IsCross e m y r
rising_cross e m y r column here low high on right touch order turn first = record {
  touch = λ c. on_edge e m y c (here c) (omega (arith, ints)) low (omega (arith, ints)) (on c) ∙ sym (touch c);
  touched = order;
  turn = turn ∙ up_turn e.ay e.by y low high;
  right = λ c. rw (turn, first) (up_turned e.ay e.by y (side e (column_x m c) y) column c low high (right c));
  still = λ none. absurd (omega (arith, ints));
}

top_turn : (ay by y : ℤ) → ay <ℤ by → by ≤ℤ y → (if int_le ay y && int_lt y by then pos 1 else (if int_le by y && int_lt y ay then negsuc 0 else pos 0)) ≡ pos 0
top_turn ay by y rises top = grind (arith, ints)

top_turned : (ay by y s : ℤ) → ay <ℤ by → by ≤ℤ y → turned_at ay by y s ≡ pos 0
top_turned ay by y s rises top = grind (arith, ints)

-- an edge from its lower end to its upper, at its upper end
pub top_cross : (e : Edge) (m : ℕ) (y : ℤ) (r : Cross) (here : ℤ → Bool) → e.ay <ℤ e.by → y ≡ e.by
    → ((c : ℤ) → is_zero (side e (column_x m c) y) ≡ here c)
    → ((c : ℤ) → spans r.touch c ≡ here c) → IfSome r.touch (λ t. t.0 ≤ℤ t.1) → r.turn ≡ pos 0 → r.first ≡ pos 0 → IsCross e m y r
top_cross e m y r here rises top on touch order turn first = record {
  touch = λ c. on_edge e m y c (here c) rises (omega (arith, ints)) (omega (arith, ints)) (on c) ∙ sym (touch c);
  touched = order;
  turn = turn ∙ sym (top_turn e.ay e.by y rises (omega (arith, ints)));
  right = λ c. top_turned e.ay e.by y (side e (column_x m c) y) rises (omega (arith, ints)) ∙ either_zero (int_le r.first c) r.turn turn;
  still = λ _. first;
}

-- the crossing of an edge is that of the edge from b to a, with the turn reversed

zero_turned : (s : ℤ) → is_zero s ≡ is_zero (neg_ℤ s)
zero_turned s = grind (arith, ints)

on_round : (e u : Edge) (x y : ℤ) → u.ax ≡ e.bx → u.ay ≡ e.by → u.bx ≡ e.ax → u.by ≡ e.ay → lies_on e x y ≡ lies_on u x y
on_round e u x y ax ay bx by =
    rw (side_reversed e u x y ax ay bx by, ax, ay, bx, by) (rw (← zero_turned (side e x y), between_turned e.bx e.ax x, between_turned e.by e.ay y) refl)

turn_round : (ay by y : ℤ) → neg_ℤ (if int_le by y && int_lt y ay then pos 1 else (if int_le ay y && int_lt y by then negsuc 0 else pos 0)) ≡ (if int_le ay y && int_lt y by then pos 1 else (if int_le by y && int_lt y ay then negsuc 0 else pos 0))
turn_round ay by y = grind (arith, ints)

side_round : (ay by y s : ℤ) → neg_ℤ (turned_at by ay y (neg_ℤ s)) ≡ turned_at ay by y s
side_round ay by y s = grind (arith, ints)

neg_if : (b : Bool) (turn : ℤ) → neg_ℤ (if b then turn else pos 0) ≡ (if b then neg_ℤ turn else pos 0)
neg_if true turn = refl
neg_if false turn = refl

pub round_cross : (e u : Edge) (m : ℕ) (y : ℤ) (up r : Cross) → u.ax ≡ e.bx → u.ay ≡ e.by → u.bx ≡ e.ax → u.by ≡ e.ay → IsCross u m y up
    → r.touch ≡ up.touch → r.turn ≡ neg_ℤ up.turn → r.first ≡ up.first → IsCross e m y r
round_cross e u m y up r ax ay bx by is touch turn first = record {
  touch = λ c. on_round e u (column_x m c) y ax ay bx by ∙ rw touch (is.touch c);
  touched = rw touch is.touched;
  turn = turn ∙ rw (is.turn, ay, by) (turn_round e.ay e.by y);
  right = λ c.
      let same : turned_at e.by e.ay y (neg_ℤ (side e (column_x m c) y)) ≡ (if int_le up.first c then up.turn else pos 0) = rw (side_reversed e u (column_x m c) y ax ay bx by, ay, by) at (is.right c) in
      rw (turn, first) (sym (side_round e.ay e.by y (side e (column_x m c) y)) ∙ ap neg_ℤ same ∙ neg_if (int_le up.first c) up.turn);
  still = λ none. first ∙ is.still (omega (arith, ints));
}

-- a level edge at its height

last_two : (a b c : Bool) → a ≡ true → c ≡ true → (a && b && c) ≡ b
last_two true true c p q = q
last_two true false c p q = refl
last_two false b c p q = absurd (cc)

level_turn : (ay by y : ℤ) → ay ≡ by → (if int_le ay y && int_lt y by then pos 1 else (if int_le by y && int_lt y ay then negsuc 0 else pos 0)) ≡ pos 0
level_turn ay by y level = grind (arith, ints)

level_turned : (ay by y s : ℤ) → ay ≡ by → turned_at ay by y s ≡ pos 0
level_turned ay by y s level = grind (arith, ints)

pub level_cross : (e : Edge) (m : ℕ) (y l h : ℤ) (r : Cross) → e.ay ≡ e.by → y ≡ e.ay → l ≡ int_min e.ax e.bx -ℤ column_x m (pos 0) → h ≡ int_max e.ax e.bx -ℤ column_x m (pos 0)
    → ((c : ℤ) → spans r.touch c ≡ (int_le l (pos 8192 *ℤ c) && int_le (pos 8192 *ℤ c) h)) → IfSome r.touch (λ t. t.0 ≤ℤ t.1) → r.turn ≡ pos 0 → r.first ≡ pos 0 → IsCross e m y r
level_cross e m y l h r level here low high touch order turn first = record {
  touch = λ c.
      last_two (is_zero (side e (column_x m c) y)) (is_between e.ax e.bx (column_x m c)) (is_between e.ay e.by y) (side_level e (column_x m c) y level here) (grind (arith, ints))
      ∙ between_from e.ax e.bx (column_x m c) l h (pos 8192 *ℤ c) (omega (arith, ints)) (omega (arith, ints)) ∙ sym (touch c);
  touched = order;
  turn = turn ∙ sym (level_turn e.ay e.by y level);
  right = λ c. level_turned e.ay e.by y (side e (column_x m c) y) level ∙ either_zero (int_le r.first c) r.turn turn;
  still = λ _. first;
}
