-- The offsets of a text's units, character by character.
use Rattle.std.proofs.Common.{◌≡◌, ◌∙◌, ℕ, ◌+◌, ◌++◌, true, false, Bool, List, [], ◌∷◌, length, encode_utf8, IsUtf8, ap, append_assoc, arith}
use Rattle.std.specs.Char.{len_utf8}
use Rattle.std.specs.Str.{chars}
use Rattle.std.proofs.lemmas.List.{append-nil, length-append, nil_from_length}
use Rattle.std.proofs.lemmas.Str.{chars-nil, chars_past_char, length-encode}
use Rattle.tt_c_calls.specs.Offsets.{begins_unit, offsets_from}

-- a character that begins a unit has its offset
pub one_begun : (pairs : Bool) (c at : ℕ) (bytes rest done all : List ℕ) → begins_unit pairs c ≡ true → IsUtf8 bytes
    → bytes ≡ encode_utf8 c ++ rest → done ++ offsets_from pairs (chars bytes) at ≡ all
    → (done ++ at ∷ []) ++ offsets_from pairs (chars rest) (at + len_utf8 c) ≡ all
one_begun pairs c at bytes rest done all is utf8 spelled split =
    append_assoc done (at ∷ []) (offsets_from pairs (chars rest) (at + len_utf8 c))
    ∙ (rw (chars_past_char bytes rest c utf8 spelled, is) at split)

-- any other is passed over
pub one_more_passed : (pairs : Bool) (c at : ℕ) (bytes rest done all : List ℕ) → begins_unit pairs c ≡ false → IsUtf8 bytes
    → bytes ≡ encode_utf8 c ++ rest → done ++ offsets_from pairs (chars bytes) at ≡ all
    → done ++ offsets_from pairs (chars rest) (at + len_utf8 c) ≡ all
one_more_passed pairs c at bytes rest done all is utf8 spelled split =
    rw (chars_past_char bytes rest c utf8 spelled, is) at split

pub none_left : (pairs : Bool) (at : ℕ) (bytes done all : List ℕ) → length bytes ≡ 0
    → done ++ offsets_from pairs (chars bytes) at ≡ all → done ≡ all
none_left pairs at bytes done all none split =
    let no_more : chars bytes ≡ [] = ap chars (nil_from_length bytes none) ∙ chars-nil in
    rw (no_more, append-nil) at split

-- the bytes of a text with its first character
pub bytes_on : (c : ℕ) (bytes rest : List ℕ) → bytes ≡ encode_utf8 c ++ rest → length bytes ≡ len_utf8 c + length rest
bytes_on c bytes rest spelled =
    let long = simp length-append at (ap length spelled) in
    omega (arith, long, length-encode c)
