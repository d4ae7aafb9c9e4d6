-- The glyphs that a line has already.
use Rattle.std.proofs.Common.{◌≡◌, ◌≢◌, ℕ, zero, suc, ◌<◌, Bool, true, false, ◌||◌, ◌==◌, List, [], ◌∷◌, length, slice_index, All, refl, arith}
use Rattle.std.proofs.lemmas.Bool.Decides.{nat_tests}
use Rattle.tt_picture.specs.Distinct.{is_among}

or_true : (b : Bool) → (b || true) ≡ true
or_true true = refl
or_true false = refl

-- the number of one of them is among them
pub is_there_at : (ns : List ℕ) (i g : ℕ) → i < length ns → slice_index ns i ≡ g → is_among g ns ≡ true
is_there_at [] i g below same = absurd (omega arith)
is_there_at (n ∷ ns) zero g below same =
    let test : (n == g) ≡ true = grind (arith, nat_tests) in rw test refl
is_there_at (n ∷ ns) (suc i) g below same = rw (is_there_at ns i g (omega arith) same) (or_true (n == g))

-- a number that none of them has is not among them
pub is_not_there : (ns : List ℕ) (g : ℕ) → All (λ n. n ≢ g) ns → is_among g ns ≡ false
is_not_there [] g none = refl
is_not_there (n ∷ ns) g none =
    let other : n ≢ g = none 0 n (omega arith) in
    let test : (n == g) ≡ false = grind (arith, nat_tests) in
    rw (test, is_not_there ns g (λ i d below. none (suc i) d (omega arith))) refl
