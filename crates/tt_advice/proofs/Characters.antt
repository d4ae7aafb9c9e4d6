-- A text, character by character.
use Rattle.std.proofs.Common.{◌≡◌, ◌∙◌, ℕ, ◌++◌, true, false, Bool, List, [], Some, None, length, chars, encode_utf8, IsUtf8, ap, refl, append_assoc}
use Rattle.std.specs.Prelude.{find}
use Rattle.std.proofs.lemmas.List.{append-nil, nil_from_length}
use Rattle.std.proofs.lemmas.Str.{chars-nil, chars_past_char}
use Rattle.tt_advice.specs.Shown.{shown, shown_character}

no_characters : (bytes : List ℕ) → length bytes ≡ 0 → chars bytes ≡ []
no_characters bytes none = ap chars (nil_from_length bytes none) ∙ chars-nil

-- the first character with a property
pub none_found : (p : ℕ → Bool) (bytes : List ℕ) → length bytes ≡ 0 → find p (chars bytes) ≡ None
none_found p bytes none = ap (find p) (no_characters bytes none)

pub one_passed : (p : ℕ → Bool) (c : ℕ) (bytes rest : List ℕ) → p c ≡ false → IsUtf8 bytes
    → bytes ≡ encode_utf8 c ++ rest → find p (chars bytes) ≡ find p (chars rest)
one_passed p c bytes rest is utf8 spelled = rw (chars_past_char bytes rest c utf8 spelled, is) refl

pub one_found : (p : ℕ → Bool) (c : ℕ) (bytes rest : List ℕ) → p c ≡ true → IsUtf8 bytes
    → bytes ≡ encode_utf8 c ++ rest → find p (chars bytes) ≡ Some c
one_found p c bytes rest is utf8 spelled = rw (chars_past_char bytes rest c utf8 spelled, is) refl

-- a path as it is told, behind a text
pub one_shown : (c : ℕ) (bytes rest before : List ℕ) → IsUtf8 bytes → bytes ≡ encode_utf8 c ++ rest
    → (before ++ encode_utf8 (shown_character c)) ++ shown rest ≡ before ++ shown bytes
one_shown c bytes rest before utf8 spelled =
    rw (chars_past_char bytes rest c utf8 spelled) (append_assoc before (encode_utf8 (shown_character c)) (shown rest))

pub all_shown : (bytes before : List ℕ) → length bytes ≡ 0 → before ++ shown bytes ≡ before
all_shown bytes before none = rw (no_characters bytes none) (append-nil before)
