-- No part of a standard: the glyphs of a font's file, and the characters of a text that the font lacks (profile).
use Rattle.std.specs.Prelude.{◌≡◌, refl, ℕ, ◌+◌, Bool, not, ◌&&◌, nat_le, ◌==◌, if◌then◌else◌, List, [], ◌∷◌, ◌++◌, map, chars, codes}
use Rattle.std.specs.List.{insert}
use Rattle.tt_bdf.specs.Asked.{characters_of, range_of_one}
use Rattle.tt_bdf.specs.declared.range.CodeRange.{CodeRange}
use Rattle.tt_cmap.specs.Lacking.{is_among}
use Rattle.tt_cmap.specs.Lookup.{by_segments}
use Rattle.tt_cmap.specs.Maps.{CharacterMap, glyph_of_unit, strict}
use Rattle.tt_cmap.specs.Units.{is_selector, plain_unit}

-- the ranges of a request: those of `--range`, and each character of a text
abbrev pub asked_ranges : List CodeRange → List ℕ → List CodeRange
asked_ranges rs text = rs ++ map range_of_one (chars text)

-- the glyph of a character without a selector
abbrev pub glyph_for : CharacterMap → ℕ → ℕ
glyph_for m c = glyph_of_unit m (plain_unit c)

abbrev pub glyphs_for : CharacterMap → List ℕ → List ℕ
glyphs_for m cs = map (glyph_for m) cs

-- the glyphs of a file, one for each of its characters
abbrev pub file_glyphs : List CodeRange → CharacterMap → List ℕ → List ℕ
file_glyphs rs m text = glyphs_for m (characters_of m (asked_ranges rs text))

-- how many characters of a rising list are below another one
abbrev pub below : ℕ → List ℕ → ℕ
below c [] = 0
below c (d ∷ ds) = if nat_le c d then 0 else below c ds + 1

-- a rising list with one more character, unless the list has the character already
abbrev pub with_in_order : List ℕ → ℕ → List ℕ
with_in_order cs c = if is_among c cs then cs else insert cs (below c cs) c

-- whether a font lacks a character that is no selector
abbrev pub lacks : CharacterMap → ℕ → Bool
lacks m c = not (is_selector c) && (glyph_for m c == 0)

abbrev pub with_lacking : CharacterMap → List ℕ → ℕ → List ℕ
with_lacking m before c = if lacks m c then with_in_order before c else before

-- a rising list, extended by those of some characters that a font lacks
abbrev pub lacking_after : CharacterMap → List ℕ → List ℕ → List ℕ
lacking_after m before [] = before
lacking_after m before (c ∷ cs) = lacking_after m (with_lacking m before c) cs

-- the distinct characters of a text that a font lacks, in order of code point
unfoldable pub text_lacking : CharacterMap → List ℕ → List ℕ
text_lacking m text = lacking_after m [] (chars text)

-- worked values: A and B have glyphs, the others have none
abbrev two_letters : CharacterMap
two_letters = strict (by_segments 3)

in_order_of_code_point : lacking_after two_letters [] (codes "zAZz") ≡ codes "Zz"
in_order_of_code_point = refl

between_two : lacking_after two_letters [] (codes "zDXBD") ≡ codes "DXz"
between_two = refl

a_selector_is_no_character : lacking_after two_letters [] (65 ∷ 0xFE0F ∷ 67 ∷ []) ≡ 67 ∷ []
a_selector_is_no_character = refl
