-- On an axis, the distance of a place is its coordinate. A sum in 2.14 is rounded by at most half a unit.
use Rattle.std.proofs.Common.{◌≡◌, ◌+◌, ◌*◌, ◌≤◌, ℤ, pos, ◌+ℤ◌, ◌*ℤ◌, unsigned_abs, arith}
use Rattle.std.proofs.lemmas.Int.{ints}
use Rattle.tt_core.specs.Numbers.{rounded_quotient}

pub whole : (x : ℤ) → rounded_quotient (x *ℤ pos 16384) (pos 16384) ≡ x
whole x = grind (arith, ints)

pub nothing : (x : ℤ) → rounded_quotient (x *ℤ pos 0) (pos 16384) ≡ pos 0
nothing x = grind (arith, ints)

times_nothing : (x : ℤ) → x *ℤ pos 0 ≡ pos 0
times_nothing x = grind (arith, ints)

pub along_x : (x y : ℤ) → rounded_quotient (x *ℤ pos 16384 +ℤ y *ℤ pos 0) (pos 16384) ≡ x
along_x x y =
    let n : x *ℤ pos 16384 +ℤ y *ℤ pos 0 ≡ x *ℤ pos 16384 = omega (arith, ints, times_nothing y) in
    rw n (whole x)

pub along_y : (x y : ℤ) → rounded_quotient (x *ℤ pos 0 +ℤ y *ℤ pos 16384) (pos 16384) ≡ y
along_y x y =
    let n : x *ℤ pos 0 +ℤ y *ℤ pos 16384 ≡ y *ℤ pos 16384 = omega (arith, ints, times_nothing x) in
    rw n (whole y)

pub near : (n : ℤ) → 16384 * unsigned_abs (rounded_quotient n (pos 16384)) ≤ unsigned_abs n + 8192
near n = grind (arith, ints)
