-- A column cut to a range of columns.
use Rattle.std.proofs.Common.{◌≡◌, ℕ, ◌<◌, ◌≤◌, nat_le, nat_lt, ◌^◌, SFits, w64, arith}
use Rattle.std.specs.Prelude.{ℤ, pos, unsigned_abs, ◌+ℤ◌, ◌-ℤ◌, ◌≤ℤ◌, int_le}
use Rattle.std.specs.Int.{int_min, int_max}
use Rattle.std.proofs.lemmas.Bool.Decides.{nat_tests}
use Rattle.std.proofs.lemmas.Int.{ints, clamps, by_lt_z}

pub cut_first : (at z low : ℤ) (count k : ℕ) → z ≡ int_max low (int_min at (low +ℤ pos count)) → k < count
    → int_le at (low +ℤ pos k) ≡ nat_le (unsigned_abs (z -ℤ low)) k
cut_first at z low count k is within =
    by_lt_z at low
    (λ left. let zero : z -ℤ low ≡ pos 0 = omega (arith, ints, clamps) in rw zero (grind (arith, ints, nat_tests)))
    (λ right. by_lt_z at (low +ℤ pos count)
    (λ inside. let same : z ≡ at = omega (arith, ints, clamps) in grind (arith, ints, nat_tests))
    (λ past. let last : z -ℤ low ≡ pos count = omega (arith, ints, clamps) in rw last (grind (arith, ints, nat_tests))))

pub cut_last : (at z before : ℤ) (count k : ℕ) → z ≡ int_max before (int_min at (before +ℤ pos count)) → k < count
    → int_le ((before +ℤ pos 1) +ℤ pos k) at ≡ nat_lt k (unsigned_abs (z -ℤ before))
cut_last at z before count k is within =
    by_lt_z before at
    (λ right. by_lt_z at (before +ℤ pos count)
    (λ inside. let same : z ≡ at = omega (arith, ints, clamps) in grind (arith, ints, nat_tests))
    (λ past. let last : z -ℤ before ≡ pos count = omega (arith, ints, clamps) in rw last (grind (arith, ints, nat_tests))))
    (λ left. let zero : z -ℤ before ≡ pos 0 = omega (arith, ints, clamps) in rw zero (grind (arith, ints, nat_tests)))

-- the distance of a cut column from the start of the range
pub cut_fits : (z low : ℤ) (count : ℕ) → count < 2 ^ 32 → low ≤ℤ z → z ≤ℤ (low +ℤ pos count) → SFits w64 (z -ℤ low)
cut_fits z low count few above below = omega (arith, ints)

pub cut_most : (z low : ℤ) (count : ℕ) → low ≤ℤ z → z ≤ℤ (low +ℤ pos count) → unsigned_abs (z -ℤ low) ≤ count
cut_most z low count above below = omega (arith, ints)
