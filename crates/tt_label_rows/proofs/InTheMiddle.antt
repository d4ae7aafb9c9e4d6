-- Rows in the middle of a box.
use Rattle.std.proofs.Common.{◌≡◌, ℕ, ◌+◌, ◌-◌, ◌*◌, ◌<◌, ◌≤◌, ℤ, pos, negsuc, ◌+ℤ◌, ◌-ℤ◌, ◌*ℤ◌, ◌≤ℤ◌, unsigned_abs, true, arith}
use Rattle.std.proofs.lemmas.Int.{ints}
use Rattle.std.proofs.lemmas.Nat.{mul-le}
use Rattle.std.specs.Prelude.{int_le}
use Rattle.tt_label_rows.specs.declared.heights.RowHeights.{RowHeights}
use Rattle.tt_label_rows.specs.Pictures.{AreHeights, first_rise, is_low}
use Rattle.tt_rows.specs.Places.{half, rows_height}

-- half of a number, twice, is the number or one less
pub half_twice : (n : ℤ) → ((half n +ℤ half n) ≤ℤ n) × (n ≤ℤ (half n +ℤ half n +ℤ pos 1))
half_twice (pos a) = (omega (arith, ints), omega (arith, ints))
half_twice (negsuc a) = (omega (arith, ints), omega (arith, ints))

pub low_rows : (r : RowHeights) (more height margin : ℕ) → is_low r more height margin ≡ true
    → rows_height more r.step r.rise r.depth ≤ℤ pos (height - 2 * margin)
low_rows r more height margin low = grind (arith, ints)

pub record AreFirst (r : RowHeights) (more height margin : ℕ) : Type 0 where
  pub bound : unsigned_abs (first_rise r more height margin) ≤ 614400 + height
  pub last : (pos (more * r.step) +ℤ first_rise r more height margin) ≤ℤ pos (614400 + height)

pub first_bounds : (r : RowHeights) (more height margin : ℕ) → AreHeights r → 2 * margin ≤ height
    → rows_height more r.step r.rise r.depth ≤ℤ pos (height - 2 * margin) → AreFirst r more height margin
first_bounds r more height margin within room low =
    let rest = pos height -ℤ pos (2 * margin) -ℤ rows_height more r.step r.rise r.depth in
    let twice = half_twice rest in
    record {
      bound = omega (arith, ints, twice.0, twice.1, within.rise, within.depth, room, low);
      last = omega (arith, ints, twice.0, twice.1, within.rise, within.depth, room, low);
    }

-- a base line is no lower than that of the last row
pub below_last : (k n step h : ℕ) (rise : ℤ) → k < n → (pos ((n - 1) * step) +ℤ rise) ≤ℤ pos (614400 + h)
    → unsigned_abs rise ≤ 614400 + h → unsigned_abs (pos (k * step) +ℤ rise) ≤ 614400 + h
below_last k n step h rise below last first =
    let most : k * step ≤ (n - 1) * step = mul-le k step (n - 1) step (omega (arith, below)) (omega arith) in
    omega (arith, ints, most, last, first)
