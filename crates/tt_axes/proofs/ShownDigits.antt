-- The digits of a fraction, one at a time.
use Rattle.std.proofs.Common.{◌≡◌, ℕ, zero, suc, ◌+◌, ◌*◌, ◌/◌, ◌%◌, ◌^◌, ◌<◌, ◌==◌, false, List, [], ◌∷◌, ◌++◌, append_assoc, refl, arith}
use Rattle.std.proofs.lemmas.Bool.Decides.{nat_tests}
use Rattle.tt_axes.specs.ShownValues.{fraction_digits}

not-none : (n : ℕ) → (n ≡ 0 → ⊥) → (n == 0) ≡ false
not-none n some = grind (arith, nat_tests)

one-digit : (rest n : ℕ) → (rest ≡ 0 → ⊥) → fraction_digits rest (suc n) ≡ (48 + rest / 10 ^ n) ∷ fraction_digits (rest % 10 ^ n) n
one-digit rest n some = rw (not-none rest some) refl

ten-power : (n : ℕ) → 0 < 10 ^ n
ten-power zero = omega arith
ten-power (suc n) = omega (arith, ten-power n)

-- a text, a digit and the digits after it
pub digit-pushed : (t u : List ℕ) (rest n m : ℕ) → n ≡ suc m → (rest ≡ 0 → ⊥) → u ≡ t ++ (48 + rest / 10 ^ m) ∷ []
    → u ++ fraction_digits (rest % 10 ^ m) m ≡ t ++ fraction_digits rest n
digit-pushed t u rest n m more some pushed =
    rw (more, pushed, one-digit rest m some) (append_assoc t ((48 + rest / 10 ^ m) ∷ []) (fraction_digits (rest % 10 ^ m) m))

pub rest-below : (rest m : ℕ) → rest % 10 ^ m < 10 ^ m
rest-below rest m = omega (arith, ten-power m)

pub digit-below : (rest n m : ℕ) → n ≡ suc m → rest < 10 ^ n → rest / 10 ^ m < 10
digit-below rest n m more below =
    let whole : 10 ^ n ≡ 10 * 10 ^ m = rw more (omega arith) in
    let some = ten-power m in
    grind (arith, whole, some)
