-- What tests of two tell.
use Rattle.std.proofs.Common.{◌≡◌, Bool, true, false, ◌&&◌, ◌||◌, ℤ, refl, arith}
use Rattle.std.specs.Ordering.{int_eq}
use Rattle.std.proofs.lemmas.Int.{ints}

pub both : (a b : Bool) → (a && b) ≡ true → (a ≡ true) × (b ≡ true)
both true b is = (refl, is)
both false b is = absurd cc

pub eq_of : (a b : ℤ) → int_eq a b ≡ true → a ≡ b
eq_of a b is = grind (arith, ints)

pub first_not : (a b : Bool) → (a || b) ≡ false → a ≡ false
first_not true b not = not
first_not false b not = refl

pub other_not : (a b : Bool) → (a || b) ≡ false → b ≡ false
other_not true b not = cc
other_not false b not = not
