-- The ranges of a unit vector's parts.
use Rattle.std.proofs.Common.{◌≡◌, ℕ, zero, suc, ◌+◌, ◌*◌, ◌/◌, ◌^◌, ◌<◌, ◌≤◌, Bool, true, false, max, eqb, if◌then◌else◌, ℤ, pos, neg_ℤ, unsigned_abs, inl, inr, refl, arith}
use Rattle.std.specs.Prelude.{int_lt}
use Rattle.std.proofs.lemmas.Bool.{cases_lt, ne_eqb}
use Rattle.std.proofs.lemmas.Nat.{mul-le}
use Rattle.std.proofs.Math.Nat.{mul-le-mul_right, le_of_mul-le-mul_left, div-le_of_le-mul}
use Rattle.tt_state.specs.Vectors.{IsUnit, pair, square, magnitude, part, unit}
use Rattle.tt_state.specs.Axes.{vector_of}
use Rattle.tt_state.specs.declared.vector.Vector.TheVariants as vector
use Rattle.tt_state.specs.Laws.{IsGreatest}
use Rattle.tt_state.proofs.Roots.{IsRoot, root_is, at_most, quotient_low, quotient_high}

either_sign : (negative : Bool) (m : ℕ) → unsigned_abs (if negative then neg_ℤ (pos m) else pos m) ≡ m
either_sign true zero = refl
either_sign true (suc m) = refl
either_sign false m = refl

pub part_abs : (v : ℤ) (l : ℕ) → unsigned_abs (part v l) ≡ magnitude (square v) l
part_abs v l = either_sign (int_lt v (pos 0)) (magnitude (square v) l)

pub quotient_few : (s l : ℕ) → 0 < l → s ≤ l → 2 ^ 28 * s / l ≤ 2 ^ 28
quotient_few s l some within = div-le_of_le-mul l (omega arith)

pub magnitude_is : (s l : ℕ) → 0 < l → s ≤ l → IsGreatest (magnitude s l) s l
magnitude_is s l some within =
    let few = quotient_few s l some within in
    let is : IsRoot (magnitude s l) (2 ^ 28 * s / l) = root_is 15 (2 ^ 28 * s / l) (omega (arith, few)) in
    record {
      low = quotient_low (2 ^ 28 * s) l (magnitude s l * magnitude s l) some is.low;
      high = quotient_high (2 ^ 28 * s) l ((magnitude s l + 1) * (magnitude s l + 1)) some is.high;
    }

pub part_is : (v : ℤ) (l : ℕ) → 0 < l → square v ≤ l → IsGreatest (unsigned_abs (part v l)) (square v) l
part_is v l some within = rw (part_abs v l) (magnitude_is (square v) l some within)

-- two parts from the squares s and t: the length is at most 1, and the greater part at least half the root of 2
short : (a b s t : ℕ) → 0 < s + t → a * a * (s + t) ≤ 2 ^ 28 * s → b * b * (s + t) ≤ 2 ^ 28 * t → a * a + b * b ≤ 2 ^ 28
short a b s t some p q =
    let sum : (s + t) * (a * a + b * b) ≤ (s + t) * 2 ^ 28 = omega (arith, p, q) in
    le_of_mul-le-mul_left sum some

long : (a s l : ℕ) → l ≤ 2 * s → 2 ^ 28 * s < (a + 1) * (a + 1) * l → 11585 ≤ a
long a s l most high =
    elim (cases_lt a 11585) [
      | inl less ↦
          let square : (a + 1) * (a + 1) ≤ 11585 * 11585 = mul-le (a + 1) (a + 1) 11585 11585 (omega arith) (omega arith) in
          let product : (a + 1) * (a + 1) * l ≤ 11585 * 11585 * l = mul-le-mul_right l square in
          absurd (omega arith)
      | inr h ↦ h
    ]

longer : (a b s t : ℕ) → 2 ^ 28 * s < (a + 1) * (a + 1) * (s + t) → 2 ^ 28 * t < (b + 1) * (b + 1) * (s + t)
    → 11585 ≤ max a b
longer a b s t p q =
    elim (cases_lt s t) [
      | inl less ↦ omega (arith, long b t (s + t) (omega arith) q)
      | inr order ↦ omega (arith, long a s (s + t) (omega arith) p)
    ]

few : (a : ℕ) → a * a ≤ 2 ^ 28 → a ≤ 16384
few a h = at_most 16384 a (2 ^ 28) h (omega arith)

pub parts_are : (x y : ℤ) → 0 < square x + square y
    → IsUnit (part x (square x + square y)) (part y (square x + square y))
parts_are x y some =
    let l : ℕ = square x + square y in
    let a : ℕ = unsigned_abs (part x l) in
    let b : ℕ = unsigned_abs (part y l) in
    let across : IsGreatest a (square x) l = part_is x l some (omega arith) in
    let upward : IsGreatest b (square y) l = part_is y l some (omega arith) in
    let within : a * a + b * b ≤ 2 ^ 28 = short a b (square x) (square y) some across.low upward.low in
    record {
      across = few a (omega (arith, within));
      upward = few b (omega (arith, within));
      short = within;
      long = longer a b (square x) (square y) across.high upward.high;
    }

-- the vector without a direction, and any other vector
pub unit_nowhere : (x y : ℤ) → square x + square y ≡ 0 → vector.X ≡ vector_of (unit x y)
unfolding unit vector_of
unit_nowhere x y none = rw none refl

pub unit_somewhere : (x y : ℤ) → 0 < square x + square y
    → unit x y ≡ pair (part x (square x + square y)) (part y (square x + square y))
unfolding unit
unit_somewhere x y some =
    let test : eqb (square x + square y) 0 ≡ false = ne_eqb (square x + square y) 0 (λ none. absurd (omega arith)) in
    rw test refl
