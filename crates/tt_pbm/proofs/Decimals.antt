-- Bytes and numbers put before a text.
use Rattle.std.proofs.Common.{◌≡◌, ◌∙◌, ℕ, ◌+◌, ◌-◌, ◌≤◌, true, false, true≢false, List, ◌∷◌, ◌++◌, length, take, drop, ℤ, pos, negsuc, int_lt, unsigned_abs, decimal, refl, ap, sym, arith}
use Rattle.std.specs.Fmt.{signed_decimal}
use Rattle.std.proofs.lemmas.Int.{ints}
use Rattle.std.proofs.lemmas.List.{drop-drop, drop_at, length-take-le}
use borrow.Rule.Slice.PartMut.{put_mid}

-- bytes that end where the text begins in its buffer
pub put_before : (at end : ℕ) (buffer bytes : List ℕ) → at ≤ end → end ≤ length buffer
    → drop at (put_mid at (end - at) buffer bytes) ≡ bytes ++ drop end buffer
put_before at end buffer bytes order within =
    let place : at + (end - at) ≡ end = omega (arith, order) in
    drop_at (take at buffer) (bytes ++ drop (end - at) (drop at buffer)) at (length-take-le at buffer (omega (arith, order, within)))
    ∙ ap (λ xs. bytes ++ xs) (drop-drop (end - at) at buffer ∙ ap (λ n. drop n buffer) place)

-- a number below 0 has a minus before its digits
pub minus_before : (z : ℤ) (text : List ℕ) → int_lt z (pos 0) ≡ true
    → 45 ∷ (decimal (unsigned_abs z) ++ text) ≡ signed_decimal z ++ text
minus_before (pos n) text below =
    let from : int_lt (pos n) (pos 0) ≡ false = grind (arith, ints) in
    absurd (true≢false (sym below ∙ from))
minus_before (negsuc n) text below = refl

-- and no other has
pub no_minus : (z : ℤ) (text : List ℕ) → int_lt z (pos 0) ≡ false
    → decimal (unsigned_abs z) ++ text ≡ signed_decimal z ++ text
no_minus (pos n) text from = refl
no_minus (negsuc n) text from = absurd (true≢false from)
