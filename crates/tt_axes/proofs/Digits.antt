-- The digits of a number, one at a time.
use Rattle.std.proofs.Common.{◌≡◌, ℕ, zero, suc, ◌+◌, ◌*◌, ◌^◌, ◌<◌, ◌≤◌, List, length, drop, slice_index, Some, add-one, arith}
use Rattle.std.proofs.lemmas.List.{at_drop_all, at_drop_more}
use Rattle.tt_axes.specs.AxisWords.{digit_value, last_weight, with_digit, with_digits}

pub digits_more : (n : ℕ) (ds : List ℕ) (i : ℕ) → i < length ds
    → with_digits (Some n) (drop i ds) ≡ with_digits (with_digit n (digit_value (slice_index ds i))) (drop (i + 1) ds)
digits_more n ds i below = at_drop_more (with_digits (Some n)) ds i 0 below

pub digits_all : (n : ℕ) (ds : List ℕ) (i : ℕ) → length ds ≤ i → with_digits (Some n) (drop i ds) ≡ Some n
digits_all n ds i past = at_drop_all (with_digits (Some n)) ds i past

-- i digits make a number below 10 ^ i
pub one_digit_more : (n m i : ℕ) → n < 10 ^ i → m ≤ 10 * n + 9 → m < 10 ^ (i + 1)
one_digit_more n m i below more = rw (add-one i) (omega arith)

pub few_digits : (n i : ℕ) → n < 10 ^ i → i < 5 → n < 10000
few_digits n zero below few = omega arith
few_digits n (suc zero) below few = omega arith
few_digits n (suc (suc zero)) below few = omega arith
few_digits n (suc (suc (suc zero))) below few = omega arith
few_digits n (suc (suc (suc (suc zero)))) below few = omega arith
few_digits n (suc (suc (suc (suc (suc i))))) below few = absurd (omega arith)

pub fraction_below : (n i : ℕ) → n < 10 ^ i → 1 ≤ i → i ≤ 5 → n * last_weight i < 100000
fraction_below n zero below some few = absurd (omega arith)
fraction_below n (suc zero) below some few = omega arith
fraction_below n (suc (suc zero)) below some few = omega arith
fraction_below n (suc (suc (suc zero))) below some few = omega arith
fraction_below n (suc (suc (suc (suc zero)))) below some few = omega arith
fraction_below n (suc (suc (suc (suc (suc zero))))) below some few = omega arith
fraction_below n (suc (suc (suc (suc (suc (suc i)))))) below some few = absurd (omega arith)
