-- A decimal that is shown is read as the same value: the digits before the point, the digits behind it, and the sign.
use Rattle.std.proofs.Common.{◌≡◌, ◌∙◌, ℕ, zero, suc, ◌+◌, ◌-◌, ◌*◌, ◌/◌, ◌%◌, ◌^◌, ◌<◌, ◌≤◌, ◌==◌, nat_lt, true, false, pos, negsuc, List, [], ◌∷◌, ◌++◌, length, Option, Some, None, inl, inr, refl, ap, ap₂, sym, arith}
use Rattle.std.specs.Prelude.{int_lt, decimal, slice_index}
use Rattle.std.proofs.lemmas.Bool.{cases_eq}
use Rattle.std.proofs.lemmas.Bool.Decides.{nat_tests}
use Rattle.std.proofs.lemmas.Fmt.{decimal_by_steps, decimal_nonempty, length-decimal-le}
use Rattle.std.proofs.lemmas.Int.{ints}
use Rattle.tt_core.specs.Cutting.{after, before}
use Rattle.tt_axes.specs.AxisWords.{by_digits, digit_value, fixed_by, fraction_of, unsigned_value, value_of, with_digit, with_digits}
use Rattle.tt_axes.specs.Shares.{portion}
use Rattle.tt_axes.specs.ShownValues.{fraction_digits, hundred_thousandths, shown_fraction, shown_parts, shown_value, ValuesAreRead}
use Rattle.tt_axes.proofs.ShownParts.{parts-read}

its-value : (d : ℕ) → d < 10 → digit_value (48 + d) ≡ Some d
its-value d small = grind (arith, nat_tests)

last-alone : (k d : ℕ) → d < 10 → with_digits (Some k) ((48 + d) ∷ []) ≡ Some (10 * k + d)
last-alone k d small = ap (λ (o : Option ℕ). with_digits (with_digit k o) []) (its-value d small)

with-last : (o : Option ℕ) (ds : List ℕ) (n d : ℕ) → d < 10 → with_digits o ds ≡ Some n → with_digits o (ds ++ (48 + d) ∷ []) ≡ Some (10 * n + d)
with-last None ds n d small was = absurd cc
with-last (Some k) [] n d small was =
    let same : k ≡ n = cc in
    last-alone k d small ∙ ap (λ (m : ℕ). Some (10 * m + d)) same
with-last (Some k) (x ∷ xs) n d small was = with-last (with_digit k (digit_value x)) xs n d small was

-- bytes from 48 on, as digits are
abbrev AreDigits : List ℕ → Type 0
AreDigits [] = Unit {0}
AreDigits (x ∷ xs) = (48 ≤ x) × AreDigits xs

-- the digits of a whole number
record IsWhole (n : ℕ) (ds : List ℕ) : Type 0 where
  value : with_digits (Some 0) ds ≡ Some n
  digits : AreDigits ds

all-last : (ds : List ℕ) (d : ℕ) → AreDigits ds → AreDigits (ds ++ (48 + d) ∷ [])
all-last [] d all = (omega arith, tt)
all-last (x ∷ xs) d all = (all.0, all-last xs d all.1)

one-whole : (n : ℕ) → n < 10 → IsWhole n ((48 + n) ∷ [])
one-whole n small =
    let same : 10 * 0 + n ≡ n = omega arith in
    record { value = last-alone 0 n small ∙ ap Some same; digits = (omega arith, tt) }

more-whole : (n : ℕ) (ds : List ℕ) → 10 ≤ n → IsWhole (n / 10) ds → IsWhole n (ds ++ (48 + n % 10) ∷ [])
more-whole n ds large so_far =
    let same : 10 * (n / 10) + n % 10 ≡ n = omega arith in
    record {
      value = with-last (Some 0) ds (n / 10) (n % 10) (omega arith) so_far.value ∙ ap Some same;
      digits = all-last ds (n % 10) so_far.digits;
    }

whole-digits : (n : ℕ) → n < 2 ^ 64 → IsWhole n (decimal n)
whole-digits n small = decimal_by_steps IsWhole one-whole more-whole n small

-- the digits of a fraction, behind others that make k
record IsFraction (k rest n : ℕ) (ds : List ℕ) : Type 0 where
  made : ℕ
  value : with_digits (Some k) ds ≡ Some made
  weighed : made * 10 ^ (n - length ds) ≡ k * 10 ^ n + rest
  long : length ds ≤ n

ten-power : (n : ℕ) → 0 < 10 ^ n
ten-power zero = omega arith
ten-power (suc n) = omega (arith, ten-power n)

ten-times : (n : ℕ) → 10 ^ suc n ≡ 10 * 10 ^ n
ten-times n = omega arith

digit-below : (rest n : ℕ) → rest < 10 ^ suc n → rest / 10 ^ n < 10
digit-below rest n below =
    let whole = ten-times n in
    let some = ten-power n in
    grind (arith, whole, some)

rest-below : (rest n : ℕ) → rest % 10 ^ n < 10 ^ n
rest-below rest n = omega (arith, ten-power n)

parts-sum : (k q r p : ℕ) → (10 * k + q) * p + r ≡ k * (10 * p) + (p * q + r)
parts-sum k q r p = grind arith

in-parts : (k rest n : ℕ) → (10 * k + rest / 10 ^ n) * 10 ^ n + rest % 10 ^ n ≡ k * 10 ^ suc n + rest
in-parts k rest n =
    let whole : 10 ^ n * (rest / 10 ^ n) + rest % 10 ^ n ≡ rest = omega (arith, ten-power n) in
    parts-sum k (rest / 10 ^ n) (rest % 10 ^ n) (10 ^ n) ∙ ap₂ (λ (a b : ℕ). k * a + b) (sym (ten-times n)) whole

nothing-left : (k n : ℕ) → IsFraction k 0 n []
nothing-left k n =
    let same : n - 0 ≡ n = omega arith in
    record { made = k; value = refl; weighed = rw same (omega arith); long = omega arith }

one-more : (k rest n : ℕ) → rest < 10 ^ suc n → IsFraction (10 * k + rest / 10 ^ n) (rest % 10 ^ n) n (fraction_digits (rest % 10 ^ n) n)
    → IsFraction k rest (suc n) ((48 + rest / 10 ^ n) ∷ fraction_digits (rest % 10 ^ n) n)
one-more k rest n below others =
    let left = fraction_digits (rest % 10 ^ n) n in
    let same : suc n - suc (length left) ≡ n - length left = omega arith in
    record {
      made = others.made;
      value = ap (λ (o : Option ℕ). with_digits (with_digit k o) left) (its-value (rest / 10 ^ n) (digit-below rest n below)) ∙ others.value;
      weighed = rw same (others.weighed ∙ in-parts k rest n);
      long = omega (arith, others.long);
    }

not-zero : (n : ℕ) → (n ≡ 0 → ⊥) → (n == 0) ≡ false
not-zero n some = grind (arith, nat_tests)

fraction-read : (k rest n : ℕ) → rest < 10 ^ n → IsFraction k rest n (fraction_digits rest n)
fraction-read k rest zero below =
    record { made = k; value = refl; weighed = omega (arith, below); long = omega arith }
fraction-read k rest (suc n) below = elim (cases_eq rest 0) [
  | inl is ↦ rw is (nothing-left k (suc n))
  | inr some ↦
      rw (not-zero rest some) (one-more k rest n below (fraction-read (10 * k + rest / 10 ^ n) (rest % 10 ^ n) n (rest-below rest n)))
]

-- where the point is

no-point : (c : ℕ) → 48 ≤ c → (c == 46) ≡ false
no-point c large = grind (arith, nat_tests)

before-point : (ds fs : List ℕ) → AreDigits ds → before 46 (ds ++ 46 ∷ fs) ≡ ds
before-point [] fs all = refl
before-point (x ∷ xs) fs all = rw (no-point x all.0) (ap (λ (ys : List ℕ). x ∷ ys) (before-point xs fs all.1))

after-point : (ds fs : List ℕ) → AreDigits ds → after 46 (ds ++ 46 ∷ fs) ≡ Some fs
after-point [] fs all = refl
after-point (x ∷ xs) fs all = rw (no-point x all.0) (after-point xs fs all.1)

before-end : (ds : List ℕ) → AreDigits ds → before 46 (ds ++ []) ≡ ds
before-end [] all = refl
before-end (x ∷ xs) all = rw (no-point x all.0) (ap (λ (ys : List ℕ). x ∷ ys) (before-end xs all.1))

no-after : (ds : List ℕ) → AreDigits ds → after 46 (ds ++ []) ≡ None
no-after [] all = refl
no-after (x ∷ xs) all = rw (no-point x all.0) (no-after xs all.1)

-- 1 to 5 digits

some-digits : (l : ℕ) → 0 < l → nat_lt l 1 ≡ false
some-digits l some = grind (arith, nat_tests)

few-digits : (l : ℕ) → l ≤ 5 → nat_lt 5 l ≡ false
few-digits l few = grind (arith, nat_tests)

digits-read : (ds : List ℕ) → 0 < length ds → length ds ≤ 5 → by_digits ds ≡ with_digits (Some 0) ds
digits-read ds some few = rw (some-digits (length ds) some, few-digits (length ds) few) refl

whole-read : (w : ℕ) → w < 100000 → by_digits (decimal w) ≡ Some w
whole-read w small =
    digits-read (decimal w) (decimal_nonempty w (omega (arith, small))) (length-decimal-le 5 w (omega arith) (omega (arith, small)) (omega (arith, small)))
    ∙ (whole-digits w (omega (arith, small))).value

some-fraction : (rest n : ℕ) → (rest == 0) ≡ false → 0 < length (fraction_digits rest (suc n))
some-fraction rest n some = rw some (omega arith)

fraction-is : (f : ℕ) → (f == 0) ≡ false → f < 100000 → fraction_of (Some (fraction_digits f 5)) ≡ Some f
fraction-is f some small =
    let read = fraction-read 0 f 5 small in
    let all = digits-read (fraction_digits f 5) (some-fraction f 4 some) read.long in
    let weighed : read.made * 10 ^ (5 - length (fraction_digits f 5)) ≡ f = omega (arith, read.weighed) in
    rw (all, read.value) (ap Some weighed)

-- a number of 1/100000

below-limit : (w : ℕ) → w < 32768 → nat_lt w 32768 ≡ true
below-limit w small = grind (arith, nat_tests)

fixed : (w f : ℕ) → w < 32768 → fixed_by (Some w) (Some f) ≡ Some (portion 65536 (100000 * w + f) 100000)
fixed w f small = rw (below-limit w small) refl

with-fraction : (ds fs : List ℕ) (w f : ℕ) → AreDigits ds → by_digits ds ≡ Some w → fraction_of (Some fs) ≡ Some f → w < 32768
    → unsigned_value (ds ++ 46 ∷ fs) ≡ Some (portion 65536 (100000 * w + f) 100000)
with-fraction ds fs w f all value fraction small =
    ap₂ (λ (a : List ℕ) (b : Option (List ℕ)). fixed_by (by_digits a) (fraction_of b)) (before-point ds fs all) (after-point ds fs all)
    ∙ (ap₂ fixed_by value fraction ∙ fixed w f small)

without-fraction : (ds : List ℕ) (w : ℕ) → AreDigits ds → by_digits ds ≡ Some w → w < 32768
    → unsigned_value (ds ++ []) ≡ Some (portion 65536 (100000 * w + 0) 100000)
without-fraction ds w all value small =
    ap₂ (λ (a : List ℕ) (b : Option (List ℕ)). fixed_by (by_digits a) (fraction_of b)) (before-end ds all) (no-after ds all)
    ∙ (ap (λ (a : Option ℕ). fixed_by a (Some 0)) value ∙ fixed w 0 small)

shown-some : (f : ℕ) → (f == 0) ≡ false → shown_fraction f ≡ 46 ∷ fraction_digits f 5
shown-some f some = rw some refl

parts-shown : (n f : ℕ) → n % 100000 ≡ f → n < 3276800000 → unsigned_value (decimal (n / 100000) ++ shown_fraction f) ≡ Some (portion 65536 n 100000)
parts-shown n f is small =
    let w = n / 100000 in
    let below : w < 32768 = omega (arith, small) in
    let all = (whole-digits w (omega (arith, small))).digits in
    let value = whole-read w (omega (arith, below)) in
    let same : 100000 * w + f ≡ n = omega (arith, is) in
    elim (cases_eq f 0) [
      | inl zero_is ↦
          let same_0 : 100000 * w + 0 ≡ n = omega (arith, same, zero_is) in
          ap (λ (g : ℕ). unsigned_value (decimal (n / 100000) ++ shown_fraction g)) zero_is
          ∙ (without-fraction (decimal w) w all value below ∙ ap (λ (m : ℕ). Some (portion 65536 m 100000)) same_0)
      | inr other ↦
          let some = not-zero f other in
          ap (λ (t : List ℕ). unsigned_value (decimal (n / 100000) ++ t)) (shown-some f some)
          ∙ (with-fraction (decimal w) (fraction_digits f 5) w f all value (fraction-is f some (omega (arith, is))) below
          ∙ ap (λ (m : ℕ). Some (portion 65536 m 100000)) same)
    ]

magnitude-read : (n : ℕ) → n < 2 ^ 31 → unsigned_value (shown_parts (hundred_thousandths n)) ≡ Some n
magnitude-read n small =
    parts-shown (hundred_thousandths n) (hundred_thousandths n % 100000) refl (omega (arith, small)) ∙ ap Some (parts-read n)

-- the sign

first-digit : (ds fs : List ℕ) → 0 < length ds → AreDigits ds → (slice_index (ds ++ fs) 0 == 45) ≡ false
first-digit [] fs some all = absurd (omega (arith, some))
first-digit (x ∷ xs) fs some all = let large = all.0 in grind (arith, nat_tests)

not-below-0 : (n : ℕ) → int_lt (pos n) (pos 0) ≡ false
not-below-0 n = grind (arith, ints)

positive-read : (n : ℕ) → n < 2 ^ 31 → value_of (shown_value (pos n)) ≡ Some (pos n)
unfolding value_of shown_value
positive-read n small =
    let w = hundred_thousandths n / 100000 in
    let little : w < 2 ^ 64 = omega (arith, small) in
    let unsigned = first-digit (decimal w) (shown_fraction (hundred_thousandths n % 100000)) (decimal_nonempty w little) (whole-digits w little).digits in
    rw (not-below-0 n, unsigned, magnitude-read n small) refl

negative-read : (n : ℕ) → suc n < 2 ^ 31 → value_of (shown_value (negsuc n)) ≡ Some (negsuc n)
unfolding value_of shown_value
negative-read n small = rw (magnitude-read (suc n) small) refl

pub values-read : ValuesAreRead
values-read (pos n) small = positive-read n small
values-read (negsuc n) small = negative-read n small
