-- The ends of contours, one at a time.
use Rattle.std.proofs.Common.{◌≡◌, ℕ, zero, suc, ◌+◌, ◌-◌, ◌*◌, ◌<◌, ◌≤◌, List, [], ◌∷◌, ◌++◌, Ok, Err, refl, arith, append-nil}
use Rattle.tt_core.specs.Faults.{Fault}
use Rattle.tt_glyf.specs.Bytes.{GlyphBytes, after}
use Rattle.tt_glyf.specs.Simple.{end_at, ends_from}
use Rattle.tt_glyf.proofs.Chains.{after-after}

pub turn : (g : GlyphBytes) (before : List ℕ) (n i last e : ℕ) → i < n → end_at g (10 + 2 * i) last ≡ Ok e
    → after before (ends_from g (10 + 2 * i) (n - i) last) ≡ after (before ++ e ∷ [])
    (ends_from g (10 + 2 * (i + 1)) (n - (i + 1)) e)
unfolding ends_from
turn g before n i last e below was =
    let more : n - i ≡ suc (n - (i + 1)) = omega arith in
    let place : 10 + 2 * (i + 1) ≡ 10 + 2 * i + 2 = omega arith in
    rw (place, more, was, after-after) refl

pub breaks : (g : GlyphBytes) (before : List ℕ) (at left last : ℕ) (f : Fault) → 0 < left → end_at g at last ≡ Err f
    → after before (ends_from g at left last) ≡ Err f
unfolding ends_from
breaks g before at zero last f some was = absurd (omega arith)
breaks g before at (suc left) last f some was = rw was refl

pub done : (g : GlyphBytes) (before : List ℕ) (n i last : ℕ) → n ≤ i
    → after before (ends_from g (10 + 2 * i) (n - i) last) ≡ Ok (record { items = before; next = 10 + 2 * i })
unfolding ends_from
done g before n i last all =
    let none : n - i ≡ 0 = omega arith in
    rw (none, append-nil) refl
