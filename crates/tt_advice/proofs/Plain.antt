-- A text of printed ASCII characters has no sign.
use Rattle.std.proofs.Common.{◌≡◌, refl, ℕ, ◌+◌, ◌<◌, Bool, true, false, List, [], ◌∷◌, None, length, chars, drop, drop-cons, get_or, add-one, arith}
use Rattle.std.specs.Prelude.{◌&&◌, find, nat_le, nat_lt}
use Rattle.std.specs.List.{list_all}
use Rattle.std.specs.Str.{IsAscii}
use Rattle.std.proofs.lemmas.Bool.Decides.{nat_tests}
use Rattle.std.proofs.lemmas.Str.{chars-IsAscii}
use Rattle.std.proofs.lemmas.Str.Ascii.{IsAscii-cons, IsAscii-nil}
use Rattle.tt_advice.specs.declared.signs.Sign.{Sign}
use Rattle.tt_advice.specs.declared.signs.Sign.TheVariants as sign
use Rattle.tt_advice.specs.Signs.{in_range, in_ranges, is_of, is_plain, is_printed, joining, right_to_left, shaped}

-- the tests of a list, one byte at a time
pub one_byte : (bs : List ℕ) (i d : ℕ) → i < length bs
    → is_plain (drop i bs) ≡ (is_printed (get_or bs i d) && is_plain (drop (i + 1) bs))
one_byte bs i d below =
    let whole : drop i bs ≡ get_or bs i d ∷ drop (i + 1) bs = rw add-one (drop-cons bs i d below) in
    rw whole refl

both : (a b : Bool) → (a && b) ≡ true → (a ≡ true) × (b ≡ true)
both true b is = (refl, is)
both false b is = absurd cc

second_fails : (a b : Bool) → b ≡ false → (a && b) ≡ false
second_fails true b is = is
second_fails false b is = refl

low : (c : ℕ) → is_printed c ≡ true → nat_le c 0x1F ≡ false
low c printed =
    let from : nat_le 0x20 c ≡ true = (both (nat_le 0x20 c) (nat_le c 0x7E) printed).0 in
    grind (arith, nat_tests, from)

below : (c n : ℕ) → nat_lt 0x7E n ≡ true → is_printed c ≡ true → nat_le n c ≡ false
below c n later printed =
    let most : nat_le c 0x7E ≡ true = (both (nat_le 0x20 c) (nat_le c 0x7E) printed).1 in
    grind (arith, nat_tests, later, most)

-- ranges that begin behind these characters have none
passed : (rs : List (ℕ × ℕ)) (c : ℕ) → list_all (λ r. nat_lt 0x7E r.0) rs ≡ true → is_printed c ≡ true
    → in_ranges rs c ≡ false
passed [] c later printed = refl
passed (r ∷ rs) c later printed =
    let parts = both (nat_lt 0x7E r.0) (list_all (λ r. nat_lt 0x7E r.0) rs) later in
    let outside : in_range c r ≡ false = rw (below c r.0 parts.0 printed) refl in
    rw outside (passed rs c parts.1 printed)

signless : (s : Sign) (c : ℕ) → is_printed c ≡ true → is_of s c ≡ false
unfolding is_of
signless sign.Control c printed =
    let first : in_range c (0x0, 0x1F) ≡ false = second_fails (nat_le 0x0 c) (nat_le c 0x1F) (low c printed) in
    let second : in_range c (0x7F, 0x9F) ≡ false = rw (below c 0x7F refl printed) refl in
    rw (first, second) refl
signless sign.RightToLeft c printed = passed right_to_left c refl printed
signless sign.Shaped c printed = passed shaped c refl printed
signless sign.Joining c printed = passed joining c refl printed

none_found : (s : Sign) (bs : List ℕ) → is_plain bs ≡ true → find (is_of s) bs ≡ None
none_found s [] plain = refl
none_found s (b ∷ bs) plain =
    let parts = both (is_printed b) (is_plain bs) plain in
    rw (signless s b parts.0) (none_found s bs parts.1)

ascii : (bs : List ℕ) → is_plain bs ≡ true → IsAscii bs
ascii [] plain = IsAscii-nil
ascii (b ∷ bs) plain =
    let parts = both (is_printed b) (is_plain bs) plain in
    let most : nat_le b 0x7E ≡ true = (both (nat_le 0x20 b) (nat_le b 0x7E) parts.0).1 in
    IsAscii-cons b bs (grind (arith, nat_tests, most)) (ascii bs parts.1)

pub plain_signless : (s : Sign) (text : List ℕ) → is_plain text ≡ true → find (is_of s) (chars text) ≡ None
plain_signless s text plain = rw (chars-IsAscii text (ascii text plain)) (none_found s text plain)
