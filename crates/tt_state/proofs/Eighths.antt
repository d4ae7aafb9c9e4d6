use Rattle.std.proofs.Common.{ℕ, ◌*◌, ◌<◌, ◌≤◌, pos, ◌+ℤ◌, ◌-ℤ◌, ◌*ℤ◌, ◌≤ℤ◌, arith, mul-le-mul_left}
use Rattle.std.proofs.lemmas.Int.{ints}
use Rattle.tt_core.specs.Products.{mul_diff}

-- n - 4 times a number is between -4 times and 12 times that number, for an n below 16
pub eighths_low : (e n : ℕ) → pos 0 ≤ℤ (pos e *ℤ (pos n -ℤ pos 4) +ℤ pos (4 * e))
eighths_low e n = let spread = mul_diff (pos e) (pos n) (pos 4) in omega (arith, ints)

pub eighths_high : (e n : ℕ) → n < 16 → (pos e *ℤ (pos n -ℤ pos 4)) ≤ℤ pos (12 * e)
eighths_high e n few =
    let spread = mul_diff (pos e) (pos n) (pos 4) in
    let most : n ≤ 16 = omega arith in
    let product : e * n ≤ e * 16 = mul-le-mul_left e most in
    omega (arith, ints)
