-- A part of a share is no more than the share.
use Rattle.std.proofs.Common.{ℕ, ◌+◌, ◌*◌, ◌/◌, ◌<◌, ◌≤◌, arith, mul-le-mul_left}
use Rattle.tt_axes.specs.Shares.{portion}

below_multiple : (a b m : ℕ) → a < b * m → a / b < m
below_multiple a b m h = grind arith

pub portion_less : (s part whole : ℕ) → part ≤ whole → 0 < whole → portion s part whole ≤ s
portion_less s part whole less some =
    let below : (2 * (s * part) + whole) / (2 * whole) < s + 1 =
    below_multiple (2 * (s * part) + whole) (2 * whole) (s + 1) (omega (arith, mul-le-mul_left s less)) in
    omega arith
