-- Edges of a contour joined, one after another, and what remains true of them.
use Rattle.std.proofs.Common.{◌≡◌, Bool, true, false, ◌&&◌, List, [], ◌∷◌, inl, inr, refl, sym, ap, ◌∙◌, arith}
use Rattle.std.specs.Prelude.{◌≢◌, not, if◌then◌else◌, ℤ, pos, negsuc, ◌+ℤ◌, ◌-ℤ◌, ◌*ℤ◌, ◌≤ℤ◌, ◌<ℤ◌, int_le, int_lt}
use Rattle.std.specs.Int.{int_div_euclid, int_rem_euclid}
use Rattle.std.specs.Ordering.{int_eq}
use Rattle.std.proofs.lemmas.Bool.{cases_Bool}
use Rattle.std.proofs.lemmas.Int.{ints, by_lt_z}
use Rattle.tt_scan_edges.specs.declared.edge.Edge.{Edge}
use Rattle.tt_scan_edges.specs.Joined.{goes_on, is_clear, join, joined, joined_from, joins, leads_to, lies_on_line, line_at, line_below, meets_none}
use Rattle.tt_scan_edges.specs.Winding.{is_between, is_zero, lies_on, side, turned}

next_joined : (e f : Edge) (fs : List Edge) → joins e f ≡ true → joined_from e (f ∷ fs) ≡ joined_from (join e f) fs
next_joined e f fs is = rw is refl

next_kept : (e f : Edge) (fs : List Edge) → joins e f ≡ false → joined_from e (f ∷ fs) ≡ e ∷ joined_from f fs
next_kept e f fs is = rw is refl

-- a fold from the right
abbrev pub folded : {A : Type 0} → (Edge → A → A) → A → List Edge → A
folded g z [] = z
folded g z (e ∷ es) = g e (folded g z es)

none_of_three : (a b : Bool) → (a && b && false) ≡ false
none_of_three true true = refl
none_of_three true false = refl
none_of_three false b = refl

-- what a test says
eq_of : (a b : ℤ) → int_eq a b ≡ true → a ≡ b
eq_of a b is = grind (arith, ints)

both_true : (a b : Bool) → (a && b) ≡ true → (a ≡ true) × (b ≡ true)
both_true true b is = (refl, is)
both_true false b is = absurd cc

off : (v : ℤ) → not (lies_on_line v) ≡ true → int_rem_euclid (v -ℤ pos 4096) (pos 8192) ≢ pos 0
off v is = λ zero. absurd (grind (arith, ints))

-- a place by the line below it
record IsPast (v q r : ℤ) : Type 0 where
  is : v ≡ (pos 8192 *ℤ q +ℤ pos 4096) +ℤ r
  low : pos 0 ≤ℤ r
  high : r <ℤ pos 8192

pub parts : (n : ℤ) → n ≡ pos 8192 *ℤ int_div_euclid n (pos 8192) +ℤ int_rem_euclid n (pos 8192)
parts (pos a) = omega (arith, ints)
parts (negsuc a) = omega (arith, ints)

pub rest_low : (n : ℤ) → pos 0 ≤ℤ int_rem_euclid n (pos 8192)
rest_low (pos a) = omega (arith, ints)
rest_low (negsuc a) = omega (arith, ints)

pub rest_high : (n : ℤ) → int_rem_euclid n (pos 8192) <ℤ pos 8192
rest_high (pos a) = omega (arith, ints)
rest_high (negsuc a) = omega (arith, ints)

past : (v : ℤ) → IsPast v (line_below v) (int_rem_euclid (v -ℤ pos 4096) (pos 8192))
past v =
    let whole = parts (v -ℤ pos 4096) in record {
      is = omega (arith, ints, whole);
      low = rest_low (v -ℤ pos 4096);
      high = rest_high (v -ℤ pos 4096);
    }

under : (a b z : ℤ) → z <ℤ a → z <ℤ b → is_between a b z ≡ false
under a b z one two = grind (arith, ints)

over : (a b z : ℤ) → a <ℤ z → b <ℤ z → is_between a b z ≡ false
over a b z one two = grind (arith, ints)

positive : (r : ℤ) → pos 0 ≤ℤ r → r ≢ pos 0 → pos 1 ≤ℤ r
positive r low off = by_lt_z (pos 0) r (λ more. omega (arith, ints, more)) (λ less. absurd (off (omega (arith, ints, low, less))))

-- places with one line below them, and on none
apart : (a b q r s k : ℤ) → IsPast a q r → IsPast b q s → r ≢ pos 0 → s ≢ pos 0 → is_between a b (line_at k) ≡ false
apart a b q r s k is_a is_b off_a off_b =
    let some_a : pos 1 ≤ℤ r = positive r is_a.low off_a in
    let some_b : pos 1 ≤ℤ s = positive s is_b.low off_b in
    by_lt_z q k
    (λ less. over a b (line_at k) (omega (arith, ints, is_a.is, is_a.high, less)) (omega (arith, ints, is_b.is, is_b.high, less)))
    (λ more. under a b (line_at k) (omega (arith, ints, is_a.is, some_a, more)) (omega (arith, ints, is_b.is, some_b, more)))

-- no line lies between places that meet none
pub none_between : (a b k : ℤ) → meets_none a b ≡ true → is_between a b (line_at k) ≡ false
none_between a b k is =
    let one = both_true (int_eq (line_below a) (line_below b)) (not (lies_on_line a) && not (lies_on_line b)) is in
    let two = both_true (not (lies_on_line a)) (not (lies_on_line b)) one.1 in
    let same = eq_of (line_below a) (line_below b) one.0 in
    let at_b : IsPast b (line_below a) (int_rem_euclid (b -ℤ pos 4096) (pos 8192)) = rw same (past b) in
    apart a b (line_below a) _ _ k (past a) at_b (off a two.0) (off b two.1)

-- places that meet none, strictly between a line and the next
pub record AreBeside (a b q : ℤ) : Type 0 where
  pub a_low : (pos 8192 *ℤ q +ℤ pos 4096) <ℤ a
  pub a_high : a <ℤ (pos 8192 *ℤ q +ℤ pos 12288)
  pub b_low : (pos 8192 *ℤ q +ℤ pos 4096) <ℤ b
  pub b_high : b <ℤ (pos 8192 *ℤ q +ℤ pos 12288)

pub beside : (a b : ℤ) → meets_none a b ≡ true → AreBeside a b (line_below a)
beside a b is =
    let one = both_true (int_eq (line_below a) (line_below b)) (not (lies_on_line a) && not (lies_on_line b)) is in
    let two = both_true (not (lies_on_line a)) (not (lies_on_line b)) one.1 in
    let same = eq_of (line_below a) (line_below b) one.0 in
    let is_a = past a in
    let is_b : IsPast b (line_below a) (int_rem_euclid (b -ℤ pos 4096) (pos 8192)) = rw same (past b) in
    let some_a = positive _ is_a.low (off a two.0) in
    let some_b = positive _ is_b.low (off b two.1) in record {
      a_low = omega (arith, ints, is_a.is, some_a);
      a_high = omega (arith, ints, is_a.is, is_a.high);
      b_low = omega (arith, ints, is_b.is, some_b);
      b_high = omega (arith, ints, is_b.is, is_b.high);
    }

-- what a joint of two edges is like
pub record AreJoint (e f : Edge) : Type 0 where
  pub same_x : e.bx ≡ f.ax
  pub same_y : e.by ≡ f.ay
  pub across : meets_none e.ax f.bx ≡ true
  pub up : meets_none e.ay f.by ≡ true
  pub between_x : is_between e.ax f.bx e.bx ≡ true
  pub between_y : is_between e.ay f.by e.by ≡ true

pub joint : (e f : Edge) → joins e f ≡ true → AreJoint e f
joint e f is =
    let one = both_true (leads_to e f) (is_clear (join e f) && goes_on e f) is in
    let meet = both_true (int_eq e.bx f.ax) (int_eq e.by f.ay) one.0 in
    let two = both_true (is_clear (join e f)) (goes_on e f) one.1 in
    let clear = both_true (meets_none e.ax f.bx) (meets_none e.ay f.by) two.0 in
    let on = both_true (is_between e.ax f.bx e.bx) (is_between e.ay f.by e.by) two.1 in record {
      same_x = eq_of e.bx f.ax meet.0;
      same_y = eq_of e.by f.ay meet.1;
      across = clear.0;
      up = clear.1;
      between_x = on.0;
      between_y = on.1;
    }

-- a place outside a range is outside each part of it
first_part : (a b c z : ℤ) → is_between a c b ≡ true → is_between a c z ≡ false → is_between a b z ≡ false
first_part a b c z middle out = grind (arith, ints)

second_part : (a b c z : ℤ) → is_between a c b ≡ true → is_between a c z ≡ false → is_between b c z ≡ false
second_part a b c z middle out = grind (arith, ints)

-- the three ranges of a joint along y, without the line
pub record AreOff (a b c d z : ℤ) : Type 0 where
  pub first : is_between a b z ≡ false
  pub second : is_between c d z ≡ false
  pub whole : is_between a d z ≡ false

off_by : (a b c d k : ℤ) → b ≡ c → meets_none a d ≡ true → is_between a d b ≡ true → AreOff a b c d (line_at k)
off_by a b c d k same clear middle =
    let none = none_between a d k clear in
    record { first = first_part a b d (line_at k) middle none; second = rw (← same) (second_part a b d (line_at k) middle none); whole = none }

pub off_rows : (e f : Edge) (k : ℤ) → joins e f ≡ true → AreOff e.ay e.by f.ay f.by (line_at k)
off_rows e f k is = let j = joint e f is in off_by e.ay e.by f.ay f.by k j.same_y j.up j.between_y

-- an edge out of reach of a height adds nothing there
pub not_on : (e : Edge) (x y : ℤ) → is_between e.ay e.by y ≡ false → lies_on e x y ≡ false
not_on e x y out = rw out (none_of_three (is_zero (side e x y)) (is_between e.ax e.bx x))

no_turn : (a b s y : ℤ) → is_between a b y ≡ false
    → (if int_le a y && int_lt y b && int_lt s (pos 0) then pos 1
    else (if int_le b y && int_lt y a && int_lt (pos 0) s then negsuc 0 else pos 0)) ≡ pos 0
no_turn a b s y out = grind (arith, ints)

pub not_turned : (e : Edge) (x y : ℤ) → is_between e.ay e.by y ≡ false → turned e x y ≡ pos 0
not_turned e x y out = no_turn e.ay e.by (side e x y) y out

-- what is summed or sought over edges is the same over joined edges, where it is the same for each joint
pub folded_from : {A : Type 0} (g : Edge → A → A) → ((e f : Edge) (a : A) → joins e f ≡ true → g e (g f a) ≡ g (join e f) a)
    → (z : A) (e : Edge) (fs : List Edge) → folded g z (joined_from e fs) ≡ folded g z (e ∷ fs)
folded_from g same z e [] = refl
folded_from g same z e (f ∷ fs) = elim (cases_Bool (joins e f)) [
  | inl is ↦ rw is (folded_from g same z (join e f) fs ∙ sym (same e f (folded g z fs) is))
  | inr other ↦ rw other (ap (g e) (folded_from g same z f fs))
]

pub folded_joined : {A : Type 0} (g : Edge → A → A) → ((e f : Edge) (a : A) → joins e f ≡ true → g e (g f a) ≡ g (join e f) a)
    → (z : A) (es : List Edge) → folded g z (joined es) ≡ folded g z es
folded_joined g same z [] = refl
folded_joined g same z (e ∷ es) = folded_from g same z e es
