-- Tests of signed numbers, as the code's words have them.
use Rattle.std.proofs.Common.{◌≡◌, ◌<◌, Bool, true, false, ℤ, unsigned_abs, ap, w32, of_z, arith}
use Rattle.std.specs.Prelude.{◌-ℤ◌}
use Rattle.std.proofs.lemmas.Int.{by_lt_z, ints}
use Rattle.std.specs.Ordering.{int_eq}
use Rattle.std.proofs.lemmas.Bool.Decides.{Decides-int_eq}

not-true : (b : Bool) (P : Type 0) → (b ≡ true → P) → (P → ⊥) → b ≡ false
not-true true P holds fails = absurd (fails (holds cc))
not-true false P holds fails = cc

pub unequal-words : (a b : ℤ) → (of_z w32 a ≡ of_z w32 b → ⊥) → int_eq a b ≡ false
unequal-words a b other = not-true (int_eq a b) (a ≡ b) ((Decides-int_eq a b).0) (λ (e : a ≡ b). other (ap (of_z w32) e))

-- two numbers that differ are apart
pub apart : (a b : ℤ) → (a ≡ b → ⊥) → 0 < unsigned_abs (a -ℤ b)
apart a b other =
    by_lt_z a b (λ less. omega (arith, ints))
    (λ no_less. by_lt_z b a (λ more. omega (arith, ints)) (λ no_more. absurd (other (omega (arith, ints)))))
