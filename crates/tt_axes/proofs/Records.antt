-- The records of named instances fit where the table does.
use Rattle.std.proofs.Common.{ℕ, ◌+◌, ◌*◌, ◌<◌, ◌≤◌, List, length, arith, mul-le-mul_left}
use Rattle.tt_axes.specs.Fvar.{axis_count, instance_count, instance_place, instance_size, IsFvar}

one-more : (size k n : ℕ) → k < n → size * k + size ≤ size * n
one-more size k n below =
    let next : k + 1 ≤ n = omega arith in
    omega (arith, mul-le-mul_left size next)

pub record-fits : (fvar : List ℕ) (k : ℕ) → IsFvar fvar → k < instance_count fvar
    → instance_place fvar k + 4 + 4 * axis_count fvar ≤ length fvar
record-fits fvar k is below =
    omega (arith, is.fits, is.size, one-more (instance_size fvar) k (instance_count fvar) below)
