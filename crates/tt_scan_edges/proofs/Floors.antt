-- Floors of quotients: their size, and the multiples of the divisor below the dividend.
use Rattle.std.proofs.Common.{◌≡◌, refl, ℕ, zero, suc, ◌/◌, ◌^◌, ◌≤◌, ap, ◌&&◌, SFits, w64, arith}
use Rattle.std.specs.Prelude.{ℤ, pos, negsuc, ◌+ℤ◌, ◌-ℤ◌, ◌*ℤ◌, ◌≤ℤ◌, ◌<ℤ◌, neg_ℤ, int_lt, unsigned_abs}
use Rattle.std.specs.Prelude.{int_div}
use Rattle.std.proofs.lemmas.Int.{ints, by_lt_z}
use lib.Signed.{shr_z}
use Rattle.tt_core.specs.Products.{mul_sum, floor_above, floor_below}
use Rattle.tt_scan_edges.specs.Winding.{is_zero}

unsigned_abs-neg : (n : ℕ) → unsigned_abs (neg_ℤ (pos n)) ≡ n
unsigned_abs-neg zero = refl
unsigned_abs-neg (suc n) = refl

half_below : (a b : ℕ) → a ≤ 2 ^ 63 → 2 ≤ b → a / b ≤ 2 ^ 62
half_below a b h p = grind arith

pub quotient_small : (n d : ℤ) → SFits w64 n → pos 2 ≤ℤ d → unsigned_abs (int_div n d) ≤ 2 ^ 62
quotient_small (pos a) (pos b) f h = half_below a b (omega (arith, ints)) (omega (arith, ints))
quotient_small (negsuc a) (pos b) f h = rw (unsigned_abs-neg (suc a / b)) (half_below (suc a) b (omega (arith, ints)) (omega (arith, ints)))
quotient_small n (negsuc b) f h = absurd (omega (arith, ints))

-- for n with d going q times into it and a rest: whether n less c times d is below 0, and whether it is 0
pub below_floor : (d q rest n c : ℤ) → pos 0 ≤ℤ rest → rest <ℤ d → d *ℤ q +ℤ rest ≡ n → int_lt (n -ℤ d *ℤ c) (pos 0) ≡ int_lt q c
below_floor d q rest n c low high is =
    by_lt_z q c
    (λ less. let above = floor_above d q rest n c low high is less in grind (arith, ints))
    (λ more. let under = floor_below d q rest n c (omega (arith, ints)) low is more in grind (arith, ints))

same_floor : (d q rest n c : ℤ) → q ≡ c → d *ℤ q +ℤ rest ≡ n → is_zero (n -ℤ d *ℤ c) ≡ (is_zero rest && is_zero (q -ℤ c))
same_floor d q rest n c same is = let product = ap (λ (z : ℤ). d *ℤ z) same in grind (arith, ints)

pub at_floor : (d q rest n c : ℤ) → pos 0 ≤ℤ rest → rest <ℤ d → d *ℤ q +ℤ rest ≡ n → is_zero (n -ℤ d *ℤ c) ≡ (is_zero rest && is_zero (q -ℤ c))
at_floor d q rest n c low high is =
    by_lt_z q c
    (λ less. let above = floor_above d q rest n c low high is less in grind (arith, ints))
    (λ more. by_lt_z c q
    (λ less. let under = floor_below d q rest n (c +ℤ pos 1) (omega (arith, ints)) low is (omega (arith, ints)) in let spread = mul_sum d c (pos 1) in grind (arith, ints))
    (λ same. same_floor d q rest n c (omega (arith, ints)) is))

-- a shift by 13 is a floor too
pub shifted_low : (n : ℤ) → (pos 8192 *ℤ shr_z n 8192) ≤ℤ n
shifted_low (pos a) = omega (arith, ints)
shifted_low (negsuc a) = omega (arith, ints)

pub shifted_high : (n : ℤ) → n <ℤ (pos 8192 *ℤ (shr_z n 8192 +ℤ pos 1))
shifted_high (pos a) = omega (arith, ints)
shifted_high (negsuc a) = omega (arith, ints)

pub shifted_fits : (n : ℤ) → SFits w64 n → SFits w64 (shr_z n 8192)
shifted_fits (pos a) f = omega (arith, ints)
shifted_fits (negsuc a) f = omega (arith, ints)
