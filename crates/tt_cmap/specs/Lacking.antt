-- Not from the standard: the characters of a text without a glyph in a font (profile).
use Rattle.std.specs.Prelude.{◌≡◌, refl, ◌<◌, ℕ, Bool, ◌==◌, if◌then◌else◌, List, [], ◌∷◌, ◌++◌, map}
use Rattle.std.specs.List.{All, filter, list_any}
use Rattle.tt_cmap.specs.declared.units.TextUnit.{TextUnit}
use Rattle.tt_cmap.specs.Lookup.{by_segments, by_groups}
use Rattle.tt_cmap.specs.Units.{character_of}
use Rattle.tt_cmap.specs.Maps.{CharacterMap, strict, units_by, glyph_of_unit}

-- whether a character is in a list
abbrev pub is_among : ℕ → List ℕ → Bool
is_among c cs = list_any (λ d. d == c) cs

-- a list with one more character, unless the list has the character already
abbrev pub with_character : List ℕ → ℕ → List ℕ
with_character before c = if is_among c before then before else before ++ c ∷ []

-- a list of distinct characters, extended by further characters in order of first appearance
abbrev pub distinct_after : List ℕ → List ℕ → List ℕ
distinct_after before [] = before
distinct_after before (c ∷ cs) = distinct_after (with_character before c) cs

abbrev pub distinct : List ℕ → List ℕ
distinct cs = distinct_after [] cs

-- whether the map gives a unit the missing glyph
abbrev pub lacks : CharacterMap → TextUnit → Bool
lacks m u = glyph_of_unit m u == 0

-- the distinct characters of a text's units without a glyph, in order of first appearance
unfoldable pub lacking_of : CharacterMap → List ℕ → List ℕ
lacking_of m cs = distinct (map character_of (filter (lacks m) (units_by m cs)))

-- a list of distinct characters with that of a unit, if the unit has no glyph
abbrev pub with_unit : CharacterMap → List ℕ → TextUnit → List ℕ
with_unit m before u = if lacks m u then with_character before u.character else before

-- all units have a glyph
abbrev pub AllHaveGlyphs : CharacterMap → List ℕ → Type 0
AllHaveGlyphs m cs = All (λ u. 0 < glyph_of_unit m u) (units_by m cs)

-- worked values: A and B have glyphs in a segment, @ and C have none
at_sign_and_c : lacking_of (strict (by_segments 3)) (67 ∷ 65 ∷ 64 ∷ 66 ∷ 67 ∷ 64 ∷ 67 ∷ []) ≡ 67 ∷ 64 ∷ []
unfolding lacking_of
at_sign_and_c = refl

b_that_the_font_lacks : lacking_of (strict (by_segments 2)) (66 ∷ 65 ∷ 66 ∷ []) ≡ 66 ∷ []
unfolding lacking_of
b_that_the_font_lacks = refl

a_and_b : lacking_of (strict (by_segments 3)) (66 ∷ 65 ∷ []) ≡ []
unfolding lacking_of
a_and_b = refl

no_text : lacking_of (strict (by_segments 3)) [] ≡ []
unfolding lacking_of
no_text = refl

-- the first character of a group has a glyph, the ideograph U+4E2D has none
an_ideograph : lacking_of (strict by_groups) (128512 ∷ 20013 ∷ 20013 ∷ []) ≡ 20013 ∷ []
unfolding lacking_of
an_ideograph = refl
