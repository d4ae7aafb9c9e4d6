-- No part of a standard: the characters of a file (profile): those of some ranges that a font has a glyph for, in rising
-- order, each once. Surrogates and variation selectors are passed over.
use Rattle.std.specs.Prelude.{◌≡◌, refl, ℕ, ◌+◌, max, Bool, true, false, not, ◌&&◌, ◌||◌, ◌==◌, nat_lt, nat_le, if◌then◌else◌, List, [], ◌∷◌, length, map, codes, Option, Some, None, Result, Ok, Err}
use Rattle.std.specs.List.{filter, range_with_len}
use Rattle.tt_bdf.specs.declared.range.CodeRange.{CodeRange}
use Rattle.tt_cmap.specs.Maps.{CharacterMap, glyph_of_unit}
use Rattle.tt_cmap.specs.Units.{is_selector, plain_unit}
use Rattle.tt_core.specs.declared.fault.JobFault.{JobFault}
use Rattle.tt_core.specs.declared.fault.JobFault.TheVariants as job
use Rattle.tt_core.specs.Limits.{text_limit}
use Rattle.tt_core.specs.Outcomes.{◌>>=◌}

abbrev pub is_within : CodeRange → ℕ → Bool
is_within r c = nat_le r.first c && nat_le c r.last

abbrev pub is_asked : List CodeRange → ℕ → Bool
is_asked [] c = false
is_asked (r ∷ rs) c = is_within r c || is_asked rs c

-- the character of a text as a range
abbrev pub range_of_one : ℕ → CodeRange
range_of_one c = record { first = c; last = c }

abbrev pub is_surrogate : ℕ → Bool
is_surrogate c = nat_le 0xD800 c && nat_le c 0xDFFF

abbrev pub is_passed_over : ℕ → Bool
is_passed_over c = is_surrogate c || is_selector c

abbrev pub has_glyph : CharacterMap → ℕ → Bool
has_glyph m c = not (glyph_of_unit m (plain_unit c) == 0)

-- whether a font has a glyph for a character that may stand in a file
abbrev pub is_shown : CharacterMap → ℕ → Bool
is_shown m c = not (is_passed_over c) && has_glyph m c

-- a code point below a far one, if it passes a test
abbrev pub found_at : (ℕ → Bool) → ℕ → ℕ → Option ℕ
found_at shown far c = if nat_lt c far && shown c then Some c else None

-- the code points below n that are asked for and pass a test
abbrev pub listed_below : (ℕ → Bool) → List CodeRange → ℕ → List ℕ
listed_below shown rs n = filter (λ c. is_asked rs c && shown c) (range_with_len 0 n)

-- the number of code points
unfoldable pub code_count : ℕ
code_count = 0x110000

abbrev pub characters_of : CharacterMap → List CodeRange → List ℕ
characters_of m rs = listed_below (is_shown m) rs code_count

-- a list that is not too long; and one that is not empty
abbrev pub few_enough : List ℕ → Result (List ℕ) JobFault
few_enough cs = if nat_lt text_limit (length cs) then Err job.TextLong else Ok cs

abbrev pub some_character : List ℕ → Result (List ℕ) JobFault
some_character [] = Err job.EmptyPicture
some_character (c ∷ cs) = Ok (c ∷ cs)

-- the characters of a file, or the refusal
unfoldable pub file_characters : CharacterMap → List CodeRange → Result (List ℕ) JobFault
file_characters m rs = few_enough (characters_of m rs) >>= some_character

-- one more than the last code point of the ranges that begin below n, at least 0
abbrev pub far_before : List CodeRange → ℕ → ℕ
far_before [] n = 0
far_before (r ∷ rs) n = max (if nat_lt r.first n then r.last + 1 else 0) (far_before rs n)

-- the same of the ranges that begin at n
abbrev pub reach_at : List CodeRange → ℕ → ℕ
reach_at [] n = 0
reach_at (r ∷ rs) n = max (if r.first == n then r.last + 1 else 0) (reach_at rs n)

-- one more than the last code point of some ranges, at least 0
abbrev pub end_of : List CodeRange → ℕ
end_of [] = 0
end_of (r ∷ rs) = max (r.last + 1) (end_of rs)

-- worked values: a font with glyphs for the code points from 65 to 68
abbrev four_letters : ℕ → Bool
four_letters c = nat_le 65 c && nat_le c 68

overlapping : listed_below four_letters (record { first = 67; last = 90 } ∷ record { first = 60; last = 67 } ∷ []) 100
    ≡ 65 ∷ 66 ∷ 67 ∷ 68 ∷ []
overlapping = refl

by_a_text : listed_below four_letters (map range_of_one (codes "DAZA")) 100 ≡ 65 ∷ 68 ∷ []
by_a_text = refl

passed_over : map is_passed_over (0xD7FF ∷ 0xD800 ∷ 0xDFFF ∷ 0xE000 ∷ 0xFE0F ∷ 0xFE10 ∷ 0xE0100 ∷ [])
    ≡ false ∷ true ∷ true ∷ false ∷ true ∷ false ∷ true ∷ []
passed_over = refl

no_character : some_character [] ≡ Err job.EmptyPicture
no_character = refl

some_characters : (few_enough (65 ∷ []) >>= some_character) ≡ Ok (65 ∷ [])
some_characters = refl
