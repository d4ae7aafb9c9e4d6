-- The hexadecimal digits of a code point, from the last one, and as they are formatted.
use Rattle.std.proofs.Common.{◌≡◌, ℕ, suc, ◌-◌, ◌^◌, ◌==◌, ◌/◌, ◌%◌, ◌<◌, ◌≤◌, ◌⊎◌, inl, inr, true, false, List, [], ◌∷◌, refl, ◌∙◌, arith}
use Rattle.std.specs.Fmt.{char_count, digits, digits_onto, digit_glyph, format_spec, padded_integral}
use Rattle.std.proofs.lemmas.Bool.{cases_lt}
use Rattle.std.proofs.lemmas.Bool.Decides.{nat_tests}
use Rattle.std.proofs.lemmas.List.{append-nil}
use Rattle.tt_render_streams.specs.CodePoints.{at_least_four, code_point}

begins : (c : ℕ) → digits 16 true c ≡ digits_onto 64 16 true c []
unfolding digits
begins c = refl

-- the last of the remaining digits, before those made already
last : (k c d : ℕ) (acc : List ℕ) → c < 16 → c ≡ d → digits_onto (suc k) 16 true c acc ≡ digit_glyph true d ∷ acc
last k c d acc small is =
    let own : c % 16 ≡ d = omega (arith, small, is) in
    let none : c / 16 ≡ 0 = omega (arith, small) in
    rw (none, own) refl

more : (k c e d : ℕ) (acc : List ℕ) → 16 ≤ c → c / 16 ≡ e → c % 16 ≡ d → digits_onto (suc k) 16 true c acc
    ≡ digits_onto k 16 true e (digit_glyph true d ∷ acc)
more k c e d acc large front own =
    let some : (e == 0) ≡ false = grind (arith, nat_tests, large, front) in
    rw (front, own, some) refl

one : (c : ℕ) → c < 16 → digits 16 true c ≡ digit_glyph true (c % 16) ∷ []
one c small = begins c ∙ last 63 c (c % 16) [] small (omega (arith, small))

two : (c : ℕ) → 16 ≤ c → c < 256 → digits 16 true c ≡ digit_glyph true (c / 16 % 16) ∷ digit_glyph true (c % 16) ∷ []
two c large small = begins c ∙ more 63 c (c / 16) (c % 16) [] large refl refl
    ∙ last 62 (c / 16) (c / 16 % 16) _ (omega (arith, small)) (omega (arith, small))

three : (c : ℕ) → 256 ≤ c → c < 4096 → digits 16 true c
    ≡ digit_glyph true (c / 256 % 16) ∷ digit_glyph true (c / 16 % 16) ∷ digit_glyph true (c % 16) ∷ []
three c large small = begins c
    ∙ more 63 c (c / 16) (c % 16) [] (omega (arith, large)) refl refl
    ∙ more 62 (c / 16) (c / 256) (c / 16 % 16) _ (omega (arith, large)) (omega arith) refl
    ∙ last 61 (c / 256) (c / 256 % 16) _ (omega (arith, small)) (omega (arith, small))

-- the last four digits, zeros among them
abbrev pub four : ℕ → List ℕ → List ℕ
four c acc = digit_glyph true (c / 4096 % 16) ∷ digit_glyph true (c / 256 % 16) ∷ digit_glyph true (c / 16 % 16)
    ∷ digit_glyph true (c % 16) ∷ acc

exactly_four : (c : ℕ) → 4096 ≤ c → c < 65536 → digits 16 true c ≡ four c []
exactly_four c large small = begins c
    ∙ more 63 c (c / 16) (c % 16) [] (omega (arith, large)) refl refl
    ∙ more 62 (c / 16) (c / 256) (c / 16 % 16) _ (omega (arith, large)) (omega arith) refl
    ∙ more 61 (c / 256) (c / 4096) (c / 256 % 16) _ (omega (arith, large)) (omega arith) refl
    ∙ last 60 (c / 4096) (c / 4096 % 16) _ (omega (arith, small)) (omega (arith, small))

exactly_five : (c : ℕ) → 65536 ≤ c → c < 1048576 → digits 16 true c ≡ digit_glyph true (c / 65536 % 16) ∷ four c []
exactly_five c large small = begins c
    ∙ more 63 c (c / 16) (c % 16) [] (omega (arith, large)) refl refl
    ∙ more 62 (c / 16) (c / 256) (c / 16 % 16) _ (omega (arith, large)) (omega arith) refl
    ∙ more 61 (c / 256) (c / 4096) (c / 256 % 16) _ (omega (arith, large)) (omega arith) refl
    ∙ more 60 (c / 4096) (c / 65536) (c / 4096 % 16) _ (omega (arith, large)) (omega arith) refl
    ∙ last 59 (c / 65536) (c / 65536 % 16) _ (omega (arith, small)) (omega (arith, small))

exactly_six : (c : ℕ) → 1048576 ≤ c → c < 16777216 → digits 16 true c
    ≡ digit_glyph true (c / 1048576) ∷ digit_glyph true (c / 65536 % 16) ∷ four c []
exactly_six c large small = begins c
    ∙ more 63 c (c / 16) (c % 16) [] (omega (arith, large)) refl refl
    ∙ more 62 (c / 16) (c / 256) (c / 16 % 16) _ (omega (arith, large)) (omega arith) refl
    ∙ more 61 (c / 256) (c / 4096) (c / 256 % 16) _ (omega (arith, large)) (omega arith) refl
    ∙ more 60 (c / 4096) (c / 65536) (c / 4096 % 16) _ (omega (arith, large)) (omega arith) refl
    ∙ more 59 (c / 65536) (c / 1048576) (c / 65536 % 16) _ (omega (arith, large)) (omega arith) refl
    ∙ last 58 (c / 1048576) (c / 1048576) _ (omega (arith, small)) refl

-- a short number after zeros
behind_three : (c : ℕ) → c < 16 → code_point c ≡ four c []
behind_three c small =
    let none : c / 16 % 16 ≡ 0 = omega (arith, small) in
    let none_before : c / 256 % 16 ≡ 0 = omega (arith, small) in
    let none_first : c / 4096 % 16 ≡ 0 = omega (arith, small) in
    rw (one c small, none, none_before, none_first) refl

behind_two : (c : ℕ) → 16 ≤ c → c < 256 → code_point c ≡ four c []
behind_two c large small =
    let none_before : c / 256 % 16 ≡ 0 = omega (arith, small) in
    let none_first : c / 4096 % 16 ≡ 0 = omega (arith, small) in
    rw (two c large small, none_before, none_first) refl

behind_one : (c : ℕ) → 256 ≤ c → c < 4096 → code_point c ≡ four c []
behind_one c large small =
    let none_first : c / 4096 % 16 ≡ 0 = omega (arith, small) in
    rw (three c large small, none_first) refl

behind_none : (c : ℕ) → 4096 ≤ c → c < 65536 → code_point c ≡ four c []
behind_none c large small = rw (exactly_four c large small) refl

from_three : (c : ℕ) → 256 ≤ c → c < 65536 → (c < 4096) ⊎ (4096 ≤ c) → code_point c ≡ four c []
from_three c large small (inl less) = behind_one c large less
from_three c large small (inr more) = behind_none c more small

from_two : (c : ℕ) → 16 ≤ c → c < 65536 → (c < 256) ⊎ (256 ≤ c) → code_point c ≡ four c []
from_two c large small (inl less) = behind_two c large less
from_two c large small (inr more) = from_three c more small (cases_lt c 4096)

from_one : (c : ℕ) → c < 65536 → (c < 16) ⊎ (16 ≤ c) → code_point c ≡ four c []
from_one c small (inl less) = behind_three c less
from_one c small (inr more) = from_two c more small (cases_lt c 256)

pub four_are : (c : ℕ) → c < 65536 → code_point c ≡ four c []
four_are c small = from_one c small (cases_lt c 16)

pub five_are : (c : ℕ) → 65536 ≤ c → c < 1048576 → code_point c ≡ digit_glyph true (c / 65536 % 16) ∷ four c []
five_are c large small = rw (exactly_five c large small) refl

pub six_are : (c : ℕ) → 1048576 ≤ c → c < 16777216 → code_point c
    ≡ digit_glyph true (c / 1048576) ∷ digit_glyph true (c / 65536 % 16) ∷ four c []
six_are c large small = rw (exactly_six c large small) refl

minus_none : (n : ℕ) → n - 0 ≡ n
minus_none n = omega arith

-- `{:04X}` of some digits
pub padded_to_four : (ds : List ℕ) → padded_integral (format_spec 32 0 4 4 (2 ^ 64 - 1)) false [] ds ≡ at_least_four ds
unfolding padded_integral char_count
padded_to_four ds = simp (append-nil, minus_none)
