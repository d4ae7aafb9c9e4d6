-- The nearest 1/100000 are the nearest to no other value of 16.16.
use Rattle.std.proofs.Common.{◌≡◌, ℕ, arith}
use Rattle.tt_axes.specs.Shares.{portion}
use Rattle.tt_axes.specs.ShownValues.{hundred_thousandths}

pub parts-read : (n : ℕ) → portion 65536 (hundred_thousandths n) 100000 ≡ n
parts-read n = omega arith
