-- The side of an edge on which a point off the edge lies, by the places of the edge's ends.
use Rattle.std.proofs.Common.{◌≡◌, Bool, true, false, not, ◌&&◌, refl, arith}
use Rattle.std.specs.Prelude.{ℤ, pos, ◌-ℤ◌, ◌*ℤ◌, ◌≤ℤ◌, ◌<ℤ◌, int_le, int_lt, neg_ℤ}
use Rattle.std.proofs.lemmas.Int.{by_lt_z, ints}
use lib.IntN.{*ℤ_comm}
use Rattle.tt_core.specs.Products.{mul_diff, mul_mono, mul_neg, neg_mul}
use Rattle.tt_scan_edges.specs.Winding.{is_between, is_zero, lies_on, side}
use Rattle.tt_scan_edges.specs.declared.edge.Edge.{Edge}

-- the sign of the product of the distances of a from x and of b from y
record Sign (a x b y p : ℤ) : Type 0 where
  up : x <ℤ a → y <ℤ b → pos 0 <ℤ p
  down : a ≤ℤ x → b ≤ℤ y → pos 0 ≤ℤ p
  apart : a ≤ℤ x → y ≤ℤ b → p ≤ℤ pos 0
  other : x ≤ℤ a → b ≤ℤ y → p ≤ℤ pos 0
  far : a <ℤ x → y <ℤ b → p <ℤ pos 0
  away : x <ℤ a → b <ℤ y → p <ℤ pos 0

positive : (a b : ℤ) → pos 0 <ℤ a → pos 0 <ℤ b → pos 0 <ℤ (a *ℤ b)
positive a b one two = omega (arith, ints, mul_mono a (pos 1) b (omega (arith, ints)) (omega (arith, ints)))

at_least : (a b : ℤ) → pos 0 ≤ℤ a → pos 0 ≤ℤ b → pos 0 ≤ℤ (a *ℤ b)
at_least a b one two = omega (arith, ints, mul_mono a (pos 0) b one two)

of_both : (a b : ℤ) → neg_ℤ a *ℤ neg_ℤ b ≡ a *ℤ b
of_both a b = omega (arith, ints, neg_mul a (neg_ℤ b), mul_neg a b)

sign_of : (a x b y : ℤ) → Sign a x b y ((a -ℤ x) *ℤ (b -ℤ y))
sign_of a x b y =
    let p = a -ℤ x in
    let q = b -ℤ y in
    let two = of_both p q in
    let one = neg_mul p q in
    let other = mul_neg p q in
    record {
      up = λ f g. positive p q (omega (arith, ints)) (omega (arith, ints));
      down = λ f g. omega (arith, ints, at_least (neg_ℤ p) (neg_ℤ q) (omega (arith, ints)) (omega (arith, ints)));
      apart = λ f g. omega (arith, ints, at_least (neg_ℤ p) q (omega (arith, ints)) (omega (arith, ints)));
      other = λ f g. omega (arith, ints, at_least p (neg_ℤ q) (omega (arith, ints)) (omega (arith, ints)));
      far = λ f g. omega (arith, ints, positive (neg_ℤ p) q (omega (arith, ints)) (omega (arith, ints)));
      away = λ f g. omega (arith, ints, positive p (neg_ℤ q) (omega (arith, ints)) (omega (arith, ints)));
    }

-- the results of tests

most : {a b : ℤ} → a <ℤ b → a ≤ℤ b
most less = omega (arith, ints)

is_most : (a b : ℤ) → int_le a b ≡ true → a ≤ℤ b
is_most a b is = grind (arith, ints)

is_more : (a b : ℤ) → int_le a b ≡ false → b <ℤ a
is_more a b is = grind (arith, ints)

less_is : (a b : ℤ) → a <ℤ b → int_lt a b ≡ true
less_is a b is = grind (arith, ints)

not_less_is : (a b : ℤ) → b <ℤ a → int_lt a b ≡ false
not_less_is a b is = grind (arith, ints)

between_is : (a b z : ℤ) → a ≤ℤ z → z ≤ℤ b → is_between a b z ≡ true
between_is a b z low high = grind (arith, ints)

between_back : (a b z : ℤ) → b ≤ℤ z → z ≤ℤ a → is_between a b z ≡ true
between_back a b z low high = grind (arith, ints)

first_false : (b : Bool) → (b && true && true) ≡ false → b ≡ false
first_false true is = is
first_false false is = refl

is_below : (s : ℤ) → is_zero s ≡ false → s ≤ℤ pos 0 → s <ℤ pos 0
is_below s off high = grind (arith, ints)

is_above : (s : ℤ) → is_zero s ≡ false → pos 0 ≤ℤ s → pos 0 <ℤ s
is_above s off low = grind (arith, ints)

one_side : (s : ℤ) → is_zero s ≡ false → not (int_lt s (pos 0)) ≡ int_lt (pos 0) s
one_side s off = grind (arith, ints)

-- an edge's start lies left of a point or level with it, where `p` holds, and below it or level with it, where `q`
-- does; its end likewise by `u` and `v`. These decide whether the point lies right of the edge, and left of it
abbrev pub Known : Bool → Bool → Bool → Bool → Bool → Bool → Type 0
Known true true true false right left = right ≡ true
Known true false true true right left = left ≡ true
Known false true false false right left = right ≡ false
Known false false false true right left = left ≡ false
Known true true false true right left = left ≡ true
Known false true true true right left = right ≡ true
Known true false false false right left = left ≡ false
Known false false true false right left = right ≡ false
Known true true false false right left = not right ≡ left
Known false false true true right left = not right ≡ left
Known p q u v right left = Unit {0}

module _ (ax ay bx by x y m n s : ℤ) (first : Sign ax x by y m) (second : Sign bx x ay y n) (is : s ≡ m -ℤ n)
    (off : (is_zero s && is_between ax bx x && is_between ay by y) ≡ false) where
  not_zero : is_between ax bx x ≡ true → is_between ay by y ≡ true → is_zero s ≡ false
  not_zero one two = first_false (is_zero s) (rw (one, two) at off)

  rises_left : ax ≤ℤ x → ay ≤ℤ y → bx ≤ℤ x → y <ℤ by → s <ℤ pos 0
  rises_left one two three four = by_lt_z ax x
      (λ less. omega (arith, ints, first.far less four, second.down three two))
      (λ level. is_below s (not_zero (between_back ax bx x three level) (between_is ay by y two (most four)))
      (omega (arith, ints, first.apart one (most four), second.down three two)))

  falls_left : ax ≤ℤ x → y <ℤ ay → bx ≤ℤ x → by ≤ℤ y → pos 0 <ℤ s
  falls_left one two three four = by_lt_z bx x
      (λ less. omega (arith, ints, first.down one four, second.far less two))
      (λ level. is_above s (not_zero (between_is ax bx x one level) (between_back ay by y four (most two)))
      (omega (arith, ints, first.down one four, second.apart three (most two))))

  rises_right : x <ℤ ax → ay ≤ℤ y → x <ℤ bx → y <ℤ by → pos 0 <ℤ s
  rises_right one two three four = omega (arith, ints, first.up one four, second.other (most three) two)

  falls_right : x <ℤ ax → y <ℤ ay → x <ℤ bx → by ≤ℤ y → s <ℤ pos 0
  falls_right one two three four = omega (arith, ints, first.other (most one) four, second.up three two)

  goes_below : ax ≤ℤ x → ay ≤ℤ y → x <ℤ bx → by ≤ℤ y → pos 0 <ℤ s
  goes_below one two three four = by_lt_z ay y
      (λ less. omega (arith, ints, first.down one four, second.away three less))
      (λ level. is_above s (not_zero (between_is ax bx x one (most three)) (between_back ay by y four level))
      (omega (arith, ints, first.down one four, second.other (most three) two)))

  comes_below : x <ℤ ax → ay ≤ℤ y → bx ≤ℤ x → by ≤ℤ y → s <ℤ pos 0
  comes_below one two three four = by_lt_z by y
      (λ less. omega (arith, ints, first.away one less, second.down three two))
      (λ level. is_below s (not_zero (between_back ax bx x three (most one)) (between_is ay by y two level))
      (omega (arith, ints, first.other (most one) four, second.down three two)))

  goes_above : ax ≤ℤ x → y <ℤ ay → x <ℤ bx → y <ℤ by → s <ℤ pos 0
  goes_above one two three four = omega (arith, ints, first.apart one (most four), second.up three two)

  comes_above : x <ℤ ax → y <ℤ ay → bx ≤ℤ x → y <ℤ by → pos 0 <ℤ s
  comes_above one two three four = omega (arith, ints, first.up one four, second.apart three (most two))

  by_ends : (p q u v : Bool) → int_le ax x ≡ p → int_le ay y ≡ q → int_le bx x ≡ u → int_le by y ≡ v
      → Known p q u v (int_lt s (pos 0)) (int_lt (pos 0) s)
  by_ends true true true false a b c d =
      less_is s (pos 0) (rises_left (is_most ax x a) (is_most ay y b) (is_most bx x c) (is_more by y d))
  by_ends true false true true a b c d =
      less_is (pos 0) s (falls_left (is_most ax x a) (is_more ay y b) (is_most bx x c) (is_most by y d))
  by_ends false true false false a b c d =
      not_less_is s (pos 0) (rises_right (is_more ax x a) (is_most ay y b) (is_more bx x c) (is_more by y d))
  by_ends false false false true a b c d =
      not_less_is (pos 0) s (falls_right (is_more ax x a) (is_more ay y b) (is_more bx x c) (is_most by y d))
  by_ends true true false true a b c d =
      less_is (pos 0) s (goes_below (is_most ax x a) (is_most ay y b) (is_more bx x c) (is_most by y d))
  by_ends false true true true a b c d =
      less_is s (pos 0) (comes_below (is_more ax x a) (is_most ay y b) (is_most bx x c) (is_most by y d))
  by_ends true false false false a b c d =
      not_less_is (pos 0) s (goes_above (is_most ax x a) (is_more ay y b) (is_more bx x c) (is_more by y d))
  by_ends false false true false a b c d =
      not_less_is s (pos 0) (comes_above (is_more ax x a) (is_more ay y b) (is_most bx x c) (is_more by y d))
  by_ends true true false false a b c d =
      let x_in = between_is ax bx x (is_most ax x a) (most (is_more bx x c)) in
      one_side s (not_zero x_in (between_is ay by y (is_most ay y b) (most (is_more by y d))))
  by_ends false false true true a b c d =
      let x_in = between_back ax bx x (is_most bx x c) (most (is_more ax x a)) in
      one_side s (not_zero x_in (between_back ay by y (is_most by y d) (most (is_more ay y b))))
  by_ends true true true true a b c d = tt
  by_ends true false true false a b c d = tt
  by_ends false true false true a b c d = tt
  by_ends false false false false a b c d = tt
  by_ends true false false true a b c d = tt
  by_ends false true true false a b c d = tt

-- the side is a difference of two of these products

spread : (a b c d : ℤ) → (c -ℤ a) *ℤ neg_ℤ b -ℤ (d -ℤ b) *ℤ neg_ℤ a ≡ a *ℤ d -ℤ c *ℤ b
spread a b c d = omega (
  arith,
  ints,
  mul_neg (c -ℤ a) b,
  *ℤ_comm (c -ℤ a) b,
  mul_diff b c a,
  *ℤ_comm b c,
  *ℤ_comm b a,
  mul_neg (d -ℤ b) a,
  *ℤ_comm (d -ℤ b) a,
  mul_diff a d b,
)

side_is : (e : Edge) (x y : ℤ) → side e x y ≡ (e.ax -ℤ x) *ℤ (e.by -ℤ y) -ℤ (e.bx -ℤ x) *ℤ (e.ay -ℤ y)
side_is e x y =
    let run : e.bx -ℤ e.ax ≡ (e.bx -ℤ x) -ℤ (e.ax -ℤ x) = omega (arith, ints) in
    let rise : e.by -ℤ e.ay ≡ (e.by -ℤ y) -ℤ (e.ay -ℤ y) = omega (arith, ints) in
    let high : y -ℤ e.ay ≡ neg_ℤ (e.ay -ℤ y) = omega (arith, ints) in
    let far : x -ℤ e.ax ≡ neg_ℤ (e.ax -ℤ x) = omega (arith, ints) in
    rw (run, rise, high, far) (spread (e.ax -ℤ x) (e.ay -ℤ y) (e.bx -ℤ x) (e.by -ℤ y))

pub known : (e : Edge) (x y : ℤ) → lies_on e x y ≡ false
    → Known (int_le e.ax x) (int_le e.ay y) (int_le e.bx x) (int_le e.by y)
    (int_lt (side e x y) (pos 0)) (int_lt (pos 0) (side e x y))
known e x y off =
    by_ends e.ax e.ay e.bx e.by x y ((e.ax -ℤ x) *ℤ (e.by -ℤ y)) ((e.bx -ℤ x) *ℤ (e.ay -ℤ y)) (side e x y)
    (sign_of e.ax x e.by y) (sign_of e.bx x e.ay y) (side_is e x y) off
    (int_le e.ax x) (int_le e.ay y) (int_le e.bx x) (int_le e.by y) refl refl refl refl
