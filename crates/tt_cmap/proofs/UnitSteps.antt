-- The units of a text, character by character.
use Rattle.std.proofs.Common.{◌≡◌, ◌∙◌, ℕ, ◌++◌, true, false, Bool, List, [], ◌∷◌, length, chars, encode_utf8, IsUtf8, ap, refl}
use Rattle.std.specs.Prelude.{◌&&◌}
use Rattle.std.proofs.lemmas.List.{nil_from_length}
use Rattle.std.proofs.lemmas.Str.{chars-nil, chars_past_char}
use Rattle.tt_cmap.specs.Units.{is_selector, unit_before, units}

pub no-characters : (bytes : List ℕ) → length bytes ≡ 0 → chars bytes ≡ []
no-characters bytes none = ap chars (nil_from_length bytes none) ∙ chars-nil

pub no-units : (pairs : Bool) (bytes : List ℕ) → length bytes ≡ 0 → units pairs (chars bytes) ≡ []
no-units pairs bytes none = ap (units pairs) (no-characters bytes none)

-- a selector is passed over, and any other character begins a unit
pub one-passed : (pairs : Bool) (c : ℕ) (bytes rest : List ℕ) → (pairs && is_selector c) ≡ true → IsUtf8 bytes
    → bytes ≡ encode_utf8 c ++ rest → units pairs (chars bytes) ≡ units pairs (chars rest)
one-passed pairs c bytes rest is utf8 spelled = rw (chars_past_char bytes rest c utf8 spelled, is) refl

pub one-unit : (pairs : Bool) (c : ℕ) (bytes rest : List ℕ) → (pairs && is_selector c) ≡ false → IsUtf8 bytes
    → bytes ≡ encode_utf8 c ++ rest
    → units pairs (chars bytes) ≡ unit_before pairs c (chars rest) ∷ units pairs (chars rest)
one-unit pairs c bytes rest is utf8 spelled = rw (chars_past_char bytes rest c utf8 spelled, is) refl
