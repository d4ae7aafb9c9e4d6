-- Half of a number is no greater in magnitude.
use Rattle.std.proofs.Common.{ℤ, pos, negsuc, ◌≤◌, unsigned_abs, arith}
use Rattle.tt_rows.specs.Places.{half}

pub half_within : (n : ℤ) → unsigned_abs (half n) ≤ unsigned_abs n
half_within (pos a) = omega arith
half_within (negsuc a) = omega arith
