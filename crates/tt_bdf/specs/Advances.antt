-- X Consortium, "X Logical Font Description Conventions": SPACING and AVERAGE_WIDTH. BDF, version 2.1: SWIDTH, in
-- thousandths of an em. The rounding of halves upwards is profile.
use Rattle.std.specs.Prelude.{◌≡◌, refl, ℕ, ◌+◌, ◌*◌, Bool, true, false, ◌&&◌, ◌==◌, if◌then◌else◌, ℤ, pos, List, [], ◌∷◌, length, map, Option, Some, None}
use Rattle.tt_core.specs.Numbers.{rounded_quotient}
use Rattle.tt_bdf.specs.declared.character.BdfCharacter.{BdfCharacter}

-- an advance in font units, in thousandths of an em
abbrev pub scalable_width : ℕ → ℕ → ℤ
scalable_width units em = rounded_quotient (pos (1000 * units)) (pos em)

-- the sum of the advances in columns
abbrev pub advances_sum : List BdfCharacter → ℕ
advances_sum [] = 0
advances_sum (c ∷ cs) = c.advance + advances_sum cs

-- ten times the mean of the advances in columns
abbrev pub average_width : List BdfCharacter → ℤ
average_width cs = rounded_quotient (pos (10 * advances_sum cs)) (pos (length cs))

-- whether all characters have one advance
abbrev pub have_advance : ℕ → List BdfCharacter → Bool
have_advance n [] = true
have_advance n (c ∷ cs) = (c.advance == n) && have_advance n cs

abbrev pub is_monospaced : List BdfCharacter → Bool
is_monospaced [] = true
is_monospaced (c ∷ cs) = have_advance c.advance cs

-- whether a character is among some
abbrev pub has_character : ℕ → List BdfCharacter → Bool
has_character code [] = false
has_character code (c ∷ cs) = if c.code == code then true else has_character code cs

-- the character that stands for those that the file lacks: the replacement character, else the question mark, if one
-- is there (profile)
abbrev pub default_character : List BdfCharacter → Option ℕ
default_character cs =
    if has_character 0xFFFD cs then Some 0xFFFD else (if has_character 0x3F cs then Some 0x3F else None)

-- worked values
abbrev advancing : ℕ → ℕ → BdfCharacter
advancing code n = record { code = code; units = 256; advance = n; left = pos 0; top = pos 0; width = 0; height = 0; at = 0 }

quarter_of_an_em : scalable_width 256 1024 ≡ pos 250
quarter_of_an_em = refl

-- 1233 of 2048 units are 602.05 thousandths, 1 of 16 units is 62.5
rounded_widths : map (λ (p : ℕ × ℕ). scalable_width p.0 p.1) ((1233, 2048) ∷ (1, 16) ∷ (0, 16) ∷ []) ≡ pos 602 ∷ pos 63 ∷ pos 0 ∷ []
rounded_widths = refl

-- 11 columns of three characters
rounded_average : average_width (advancing 63 4 ∷ advancing 65 4 ∷ advancing 66 3 ∷ []) ≡ pos 37
rounded_average = refl

-- 10 * 13 / 4 is 32.5
half_of_an_average : average_width (advancing 63 4 ∷ advancing 65 4 ∷ advancing 66 4 ∷ advancing 67 1 ∷ []) ≡ pos 33
half_of_an_average = refl

one_advance : is_monospaced (advancing 63 4 ∷ advancing 65 4 ∷ []) ≡ true
one_advance = refl

two_advances : is_monospaced (advancing 63 4 ∷ advancing 65 4 ∷ advancing 66 3 ∷ []) ≡ false
two_advances = refl

question_mark : default_character (advancing 63 4 ∷ advancing 65 4 ∷ []) ≡ Some 63
question_mark = refl

replacement_character : default_character (advancing 63 4 ∷ advancing 0xFFFD 4 ∷ []) ≡ Some 0xFFFD
replacement_character = refl

no_default : default_character (advancing 65 4 ∷ []) ≡ None
no_default = refl
