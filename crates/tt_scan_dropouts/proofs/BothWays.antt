-- A free gap of a row is crossed both ways or not at all. From its left centre to its right one the winding changes by
-- the edges that go through the gap. The winding is 0 at both.
use Rattle.std.proofs.Common.{◌≡◌, refl, sym, ap, ◌∙◌, ℕ, ◌+◌, Bool, true, false, not, ◌&&◌, ◌||◌, List, [], ◌∷◌, arith}
use Rattle.std.specs.Prelude.{ℤ, pos, negsuc, ◌+ℤ◌, ◌-ℤ◌, ◌*ℤ◌, ◌≤ℤ◌, ◌<ℤ◌, int_le, int_lt, nat_lt, neg_ℤ, if◌then◌else◌}
use Rattle.std.specs.Int.{int_div_euclid, int_rem_euclid}
use Rattle.std.specs.Ordering.{int_eq}
use Rattle.std.proofs.lemmas.Bool.Decides.{nat_tests}
use Rattle.std.proofs.lemmas.Int.{by_lt_z, ints}
use Rattle.tt_scan_edges.specs.Winding.{is_black, is_zero, lies_on_one, side, turned, winding}
use Rattle.tt_scan_edges.specs.declared.edge.Edge.{Edge}
use Rattle.tt_scan_edges.proofs.Crosses.{turned_at}
use Rattle.tt_scan_edges.proofs.Floors.{below_floor}
use Rattle.tt_scan_edges.proofs.Sides.{side_reversed}
use Rattle.tt_scan_gaps.specs.Crossings.{centre, gap_at}
use Rattle.tt_scan_gaps.specs.Gaps.{is_free}
use Rattle.tt_scan_gaps.specs.BothWays.{crosses_gap, goes_through}
use Rattle.tt_scan_dropouts.specs.Laws.{RowsCrossedBothWays}
use Rattle.tt_scan_dropouts.proofs.Through.{in_gap, is_here, through_here}

-- a point lies strictly right of an edge if and only if the edge's place, rounded down to a whole number, is left of it

whole : (n d : ℤ) → pos 0 <ℤ d
    → (pos 0 ≤ℤ int_rem_euclid n d) × (int_rem_euclid n d <ℤ d) × (d *ℤ int_div_euclid n d +ℤ int_rem_euclid n d ≡ n)
whole (pos a) (pos b) low = (omega (arith, ints), omega (arith, ints), omega (arith, ints))
whole (negsuc a) (pos b) low = (omega (arith, ints), omega (arith, ints), omega (arith, ints))
whole n (negsuc b) low = absurd (omega (arith, ints))

-- the place of an edge from its lower end to its upper at a height, rounded down to a whole number
abbrev upward_x : Edge → ℤ → ℤ
upward_x u y = u.ax +ℤ int_div_euclid ((u.bx -ℤ u.ax) *ℤ (y -ℤ u.ay)) (u.by -ℤ u.ay)

shifted : (a q x : ℤ) → int_lt q (x -ℤ a) ≡ int_lt (a +ℤ q) x
shifted a q x = grind (arith, ints)

right_of : (u : Edge) (x y : ℤ) → u.ay <ℤ u.by → int_lt (side u x y) (pos 0) ≡ int_lt (upward_x u y) x
right_of u x y low =
    let n = (u.bx -ℤ u.ax) *ℤ (y -ℤ u.ay) in
    let d = u.by -ℤ u.ay in
    let parts = whole n d (omega (arith, ints)) in
    below_floor d (int_div_euclid n d) (int_rem_euclid n d) n (x -ℤ u.ax) parts.0 parts.1 parts.2
    ∙ shifted u.ax (int_div_euclid n d) x

-- from one centre to the next an edge's turn changes by 1 where it goes through the gap between them

abbrev pub one_if : Bool → ℕ
one_if b = if b then 1 else 0

rising_step : (ay by y s t x l h : ℤ) → ay <ℤ by → l <ℤ h → int_lt s (pos 0) ≡ int_lt x l
    → int_lt t (pos 0) ≡ int_lt x h
    → turned_at ay by y t ≡ (turned_at ay by y s
    +ℤ pos (one_if ((int_le ay y && int_lt y by) && (int_le l x && int_lt x h) && true)))
    -ℤ pos (one_if ((int_le ay y && int_lt y by) && (int_le l x && int_lt x h) && false))
rising_step ay by y s t x l h rises apart left right = grind (arith, ints)

turned_sign : (s : ℤ) → int_lt (pos 0) s ≡ int_lt (neg_ℤ s) (pos 0)
turned_sign s = grind (arith, ints)

falls_there : (ay by y s : ℤ) → by <ℤ ay
    → turned_at ay by y s ≡ (if int_le by y && int_lt y ay && int_lt (pos 0) s then negsuc 0 else pos 0)
falls_there ay by y s falls = grind (arith, ints)

down_step : (p q : Bool) (x l h : ℤ) → l <ℤ h → (if p && q && int_lt x h then negsuc 0 else pos 0)
    ≡ ((if p && q && int_lt x l then negsuc 0 else pos 0)
    +ℤ pos (one_if ((p && q) && (int_le l x && int_lt x h) && false)))
    -ℤ pos (one_if ((p && q) && (int_le l x && int_lt x h) && true))
down_step true true x l h apart = grind (arith, ints)
down_step true false x l h apart = refl
down_step false q x l h apart = refl

falling_step : (ay by y s t x l h : ℤ) → by <ℤ ay → l <ℤ h → int_lt (pos 0) s ≡ int_lt x l
    → int_lt (pos 0) t ≡ int_lt x h
    → turned_at ay by y t ≡ (turned_at ay by y s
    +ℤ pos (one_if ((int_le by y && int_lt y ay) && (int_le l x && int_lt x h) && false)))
    -ℤ pos (one_if ((int_le by y && int_lt y ay) && (int_le l x && int_lt x h) && true))
falling_step ay by y s t x l h falls apart left right =
    rw (falls_there ay by y s falls, falls_there ay by y t falls, left, right)
    (down_step (int_le by y) (int_lt y ay) x l h apart)

level_step : (ay by y s t : ℤ) (b : Bool) → ay ≡ by
    → turned_at ay by y t ≡ (turned_at ay by y s +ℤ pos (one_if ((int_le ay y && int_lt y by) && b && false)))
    -ℤ pos (one_if ((int_le ay y && int_lt y by) && b && true))
level_step ay by y s t b level = grind (arith, ints)

abbrev OneChanges : Edge → ℤ → ℤ → Type 0
OneChanges e j c = turned e (centre (c +ℤ pos 1)) (centre j)
    ≡ (turned e (centre c) (centre j) +ℤ pos (one_if (is_here true j c e))) -ℤ pos (one_if (is_here false j c e))

next_centre : (c : ℤ) → centre c <ℤ centre (c +ℤ pos 1)
next_centre c = omega (arith, ints)

rising_changes : (e : Edge) (j c : ℤ) → e.ay <ℤ e.by → OneChanges e j c
rising_changes e j c rises =
    let f : int_lt e.by e.ay ≡ false = grind (arith, ints) in
    let r : int_lt e.ay e.by ≡ true = grind (arith, ints) in
    let x = upward_x e (centre j) in
    rw (f, r, in_gap x c)
    (rising_step e.ay e.by (centre j) (side e (centre c) (centre j)) (side e (centre (c +ℤ pos 1)) (centre j)) x
    (centre c) (centre (c +ℤ pos 1)) rises (next_centre c) (right_of e (centre c) (centre j) rises)
    (right_of e (centre (c +ℤ pos 1)) (centre j) rises))

-- the edge from its end to its start
abbrev back : Edge → Edge
back e = record { ax = e.bx; ay = e.by; bx = e.ax; by = e.ay }

left_of : (e : Edge) (x y : ℤ) → e.by <ℤ e.ay → int_lt (pos 0) (side e x y) ≡ int_lt (upward_x (back e) y) x
left_of e x y falls =
    turned_sign (side e x y)
    ∙ ap (λ s. int_lt s (pos 0)) (sym (side_reversed e (back e) x y refl refl refl refl)) ∙ right_of (back e) x y falls

falling_changes : (e : Edge) (j c : ℤ) → e.by <ℤ e.ay → OneChanges e j c
falling_changes e j c falls =
    let f : int_lt e.by e.ay ≡ true = grind (arith, ints) in
    let r : int_lt e.ay e.by ≡ false = grind (arith, ints) in
    let x = upward_x (back e) (centre j) in
    rw (f, r, in_gap x c)
    (falling_step e.ay e.by (centre j) (side e (centre c) (centre j)) (side e (centre (c +ℤ pos 1)) (centre j)) x
    (centre c) (centre (c +ℤ pos 1)) falls (next_centre c) (left_of e (centre c) (centre j) falls)
    (left_of e (centre (c +ℤ pos 1)) (centre j) falls))

level_changes : (e : Edge) (j c : ℤ) → e.ay ≡ e.by → OneChanges e j c
level_changes e j c level =
    let f : int_lt e.by e.ay ≡ false = grind (arith, ints) in
    let r : int_lt e.ay e.by ≡ false = grind (arith, ints) in
    rw (f, r)
    (level_step e.ay e.by (centre j) (side e (centre c) (centre j)) (side e (centre (c +ℤ pos 1)) (centre j))
    (int_eq (gap_at (upward_x e (centre j))) c) level)

one_changes : (e : Edge) (j c : ℤ) → OneChanges e j c
one_changes e j c = by_lt_z e.ay e.by (λ rises. rising_changes e j c rises)
    (λ other. by_lt_z e.by e.ay (λ falls. falling_changes e j c falls)
    (λ level. level_changes e j c (omega (arith, ints))))

-- the winding changes by the number of edges that rise through the gap, less the number that fall through it

how_many : Bool → ℤ → ℤ → List Edge → ℕ
how_many up j c [] = 0
how_many up j c (e ∷ es) = one_if (goes_through up j c e) + how_many up j c es

all_change : (es : List Edge) (j c : ℤ) → winding es (centre (c +ℤ pos 1)) (centre j)
    ≡ (winding es (centre c) (centre j) +ℤ pos (how_many true j c es)) -ℤ pos (how_many false j c es)
unfolding how_many
all_change [] j c = refl
all_change (e ∷ es) j c =
    let up = ap (λ b. pos (one_if b)) (through_here true j c e) in
    let down = ap (λ b. pos (one_if b)) (through_here false j c e) in
    let one = one_changes e j c in
    let more = all_change es j c in
    omega (arith, ints)

some_more : (b : Bool) (n : ℕ) (rest : Bool) → rest ≡ nat_lt 0 n → (b || rest) ≡ nat_lt 0 (one_if b + n)
some_more true n rest is = grind (arith, nat_tests)
some_more false n rest is = grind (arith, nat_tests)

some : (up : Bool) (es : List Edge) (j c : ℤ) → crosses_gap up es j c ≡ nat_lt 0 (how_many up j c es)
unfolding how_many
some up [] j c = refl
some up (e ∷ es) j c = some_more (goes_through up j c e) (how_many up j c es) (crosses_gap up es j c) (some up es j c)

pub both_ways : (es : List Edge) (j c : ℤ) → winding es (centre c) (centre j) ≡ pos 0
    → winding es (centre (c +ℤ pos 1)) (centre j) ≡ pos 0 → crosses_gap true es j c ≡ crosses_gap false es j c
both_ways es j c left right =
    let change = all_change es j c in
    let same : how_many true j c es ≡ how_many false j c es = omega (arith, ints) in
    some true es j c ∙ ap (λ n. nat_lt 0 n) same ∙ sym (some false es j c)

-- where a gap is free, both its windings are 0

zero_is : (lies : Bool) (w : ℤ) → (lies || not (is_zero w)) ≡ false → (lies ≡ false) × (w ≡ pos 0)
zero_is true w is = absurd cc
zero_is false w is = (refl, grind (arith, ints))

pub white : (es : List Edge) (x y : ℤ) → is_black es x y ≡ false
    → (lies_on_one es x y ≡ false) × (winding es x y ≡ pos 0)
white es x y is = zero_is (lies_on_one es x y) (winding es x y) is

neither : (a b : Bool) → (not a && not b) ≡ true → (a ≡ false) × (b ≡ false)
neither true b is = absurd cc
neither false true is = absurd cc
neither false false is = (refl, refl)

pub free : (black : ℤ → ℤ → Bool) (c j : ℤ) → is_free black c j ≡ true
    → (black c j ≡ false) × (black (c +ℤ pos 1) j ≡ false)
free black c j is = neither (black c j) (black (c +ℤ pos 1) j) is

pub rows_crossed : RowsCrossedBothWays
rows_crossed es c j is =
    let two = free (λ c j. is_black es (centre c) (centre j)) c j is in
    both_ways es j c (white es (centre c) (centre j) two.0).1 (white es (centre (c +ℤ pos 1)) (centre j) two.1).1
