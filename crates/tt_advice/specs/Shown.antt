-- No part of the standard: foreign words as they are reported, the path of a font among them (profile).
use Rattle.std.specs.Prelude.{◌≡◌, refl, ℕ, Bool, ◌||◌, if◌then◌else◌, List, [], ◌∷◌, map, chars, codes}
use Rattle.std.specs.Str.{encode_utf8_all}
use Rattle.tt_advice.specs.declared.signs.Sign.TheVariants as sign
use Rattle.tt_advice.specs.Signs.{in_ranges, is_of}

-- marks of direction, U+2028 and U+2029 that end a line, and the characters that embed, override or isolate a direction
abbrev turning : List (ℕ × ℕ)
turning = (0x61C, 0x61C) ∷ (0x200E, 0x200F) ∷ (0x2028, 0x202E) ∷ (0x2066, 0x2069) ∷ []

-- whether a character may move the cursor of a terminal, or turn or end a line there
abbrev pub steers : ℕ → Bool
steers c = is_of sign.Control c || in_ranges turning c

-- a question mark in place of a character that steers
abbrev pub shown_character : ℕ → ℕ
shown_character c = if steers c then 0x3F else c

-- a word in which no character moves a cursor or feigns a line
abbrev pub shown : List ℕ → List ℕ
shown word = encode_utf8_all (map shown_character (chars word))

-- worked values: a letter, a blank, a tilde and a no-break space; a line feed, a carriage return, an escape, U+007F, and
-- of C1 its ends and U+0085
as_they_are : map shown_character (0x61 ∷ 0x20 ∷ 0x7E ∷ 0xA0 ∷ []) ≡ 0x61 ∷ 0x20 ∷ 0x7E ∷ 0xA0 ∷ []
unfolding is_of
as_they_are = refl

as_question_marks : map shown_character (0x0A ∷ 0x0D ∷ 0x1B ∷ 0x7F ∷ 0x80 ∷ 0x85 ∷ 0x9F ∷ []) ≡ codes "???????"
unfolding is_of
as_question_marks = refl

-- the ends of each range that turns or breaks a line, and the characters beside them
turned : map shown_character (0x61C ∷ 0x200E ∷ 0x200F ∷ 0x2028 ∷ 0x2029 ∷ 0x202E ∷ 0x2066 ∷ 0x2069 ∷ []) ≡ codes "????????"
unfolding is_of
turned = refl

beside_those : map shown_character (0x61B ∷ 0x61D ∷ 0x200D ∷ 0x2010 ∷ 0x2027 ∷ 0x202F ∷ 0x2065 ∷ 0x206A ∷ [])
    ≡ 0x61B ∷ 0x61D ∷ 0x200D ∷ 0x2010 ∷ 0x2027 ∷ 0x202F ∷ 0x2065 ∷ 0x206A ∷ []
unfolding is_of
beside_those = refl

-- a line feed inside a word feigns no line
in_one_line : map shown_character (codes "a\nb") ≡ codes "a?b"
unfolding is_of
in_one_line = refl
