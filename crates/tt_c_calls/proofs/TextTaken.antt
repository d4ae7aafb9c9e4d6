-- Bytes that are UTF-8, and bytes that are not.
use Rattle.std.proofs.Common.{◌≡◌, ℕ, Bool, true, false, List, Ok, Err, refl}
use Rattle.std.specs.Prelude.{IsUtf8}
use Rattle.std.proofs.lemmas.Str.{IsUtf8-from_is_utf8, is_utf8-from_IsUtf8}
use Rattle.std.specs.Str.{is_utf8}
use Rattle.tt_c_calls.specs.Asked.{text_asked}
use Rattle.tt_c_calls.specs.Refusals.{not_utf8}

pub text_is_taken : (bytes text : List ℕ) → (text ≡ bytes) × IsUtf8 bytes → text_asked bytes ≡ Ok text
unfolding text_asked
text_is_taken bytes text is_text =
    let yes = is_utf8-from_IsUtf8 bytes is_text.1 in
    rw (yes, is_text.0) refl

pub no_text_is_refused : (bytes : List ℕ) → (IsUtf8 bytes → ⊥) → text_asked bytes ≡ Err not_utf8
unfolding text_asked
no_text_is_refused bytes other =
    let none : is_utf8 bytes ≡ false = no_test (is_utf8 bytes) refl in
    rw none refl
  where
    no_test : (b : Bool) → is_utf8 bytes ≡ b → is_utf8 bytes ≡ false
    no_test true is_text = absurd (other (IsUtf8-from_is_utf8 bytes is_text))
    no_test false is_not = is_not
