-- The sums of Adler-32, one byte more at a time.
use Rattle.std.proofs.Common.{ℕ, ◌+◌, ◌*◌, ◌^◌, ◌<◌, ◌≤◌, arith}

-- both sums stay small
pub first_stays : (first byte n : ℕ) → first ≤ 1 + 255 * n → byte < 256 → first + byte ≤ 1 + 255 * (n + 1)
first_stays first byte n small few = omega (arith, small, few)

pub second_stays : (first second n : ℕ) → first ≤ 1 + 255 * (n + 1) → second ≤ 2 ^ 32 * n → n < 2 ^ 24
    → second + first ≤ 2 ^ 32 * (n + 1)
second_stays first second n small less few = omega (arith, small, less, few)
