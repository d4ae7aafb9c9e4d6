-- ASCII bytes are text.
use Rattle.std.proofs.Common.{◌≡◌, ℕ, zero, suc, ◌<◌, Bool, true, false, ◌&&◌, nat_lt, List, [], ◌∷◌, slice_index, IsTrue, refl, arith}
use Rattle.std.proofs.lemmas.Bool.Decides.{nat_tests}
use Rattle.std.specs.Str.{IsUtf8}
use Rattle.std.proofs.lemmas.Str.{IsUtf8-from_ascii}
use Rattle.tt_core.specs.Faults.{is_ascii}

both : (a b : Bool) → (a && b) ≡ true → (a ≡ true) × (b ≡ true)
both true b h = (refl, h)
both false b h = absurd (cc)

ascii_at : (bs : List ℕ) (i : ℕ) → IsTrue (is_ascii bs) → slice_index bs i < 128
ascii_at [] i h = omega arith
ascii_at (b ∷ bs) zero h = let first = both (nat_lt b 128) (is_ascii bs) h in grind (arith, nat_tests)
ascii_at (b ∷ bs) (suc i) h = ascii_at bs i ((both (nat_lt b 128) (is_ascii bs) h).1)

pub IsUtf8-from_test : (bs : List ℕ) → IsTrue (is_ascii bs) → IsUtf8 bs
IsUtf8-from_test bs h = IsUtf8-from_ascii bs (λ i. ascii_at bs i h)
