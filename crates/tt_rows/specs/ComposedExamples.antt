-- Worked values of composed letters, in a font that has A, E, A with a diaeresis, an acute accent and a diaeresis, and of
-- Hangul a consonant, a vowel and their syllable.
use Rattle.std.specs.Prelude.{◌≡◌, refl, ℕ, true, false, List, [], ◌∷◌, ◌++◌, map}
use Rattle.tt_cmap.specs.Maps.{CharacterMap, strict}
use Rattle.tt_cmap.specs.Ranges.{groups}
use Rattle.tt_rows.specs.Composed.{composed, composite_in}
use Rattle.tt_rows.specs.ComposedLaws.{has_pair}
use Rattle.unicode_normalization.proofs.Computing.{unicode_normalization}

-- a group of one character, whose number has two bytes
group : ℕ → ℕ → ℕ → List ℕ
group high low glyph = 0 ∷ 0 ∷ high ∷ low ∷ 0 ∷ 0 ∷ high ∷ low ∷ 0 ∷ 0 ∷ 0 ∷ glyph ∷ []

marks : CharacterMap
unfolding group
marks = strict (record {
  subtable = groups (record {
    table = 0 ∷ 12 ∷ 0 ∷ 0 ∷ 0 ∷ 0 ∷ 0 ∷ 112 ∷ 0 ∷ 0 ∷ 0 ∷ 0 ∷ 0 ∷ 0 ∷ 0 ∷ 8 ∷ (group 0 0x41 1 ++ group 0 0x45 1 ++ group 0 0xC4 2
        ++ group 3 1 1 ++ group 3 8 1 ++ group 0x11 0 1 ++ group 0x11 0x61 1 ++ group 0xAC 0 2);
    at = 0;
  });
  glyphs = 3;
})

a_with_diaeresis : composed marks (0x41 ∷ 0x308 ∷ 0x41 ∷ []) ≡ 0xC4 ∷ 0x41 ∷ []
unfolding marks group composite_in unicode_normalization
a_with_diaeresis = refl

the_font_lacks_it : composed marks (0x45 ∷ 0x301 ∷ []) ≡ 0x45 ∷ 0x301 ∷ []
unfolding marks group composite_in unicode_normalization
the_font_lacks_it = refl

hangul : composed marks (0x1100 ∷ 0x1161 ∷ []) ≡ 0xAC00 ∷ []
unfolding marks group composite_in unicode_normalization
hangul = refl

a_second_mark_stays : composed marks (0x41 ∷ 0x308 ∷ 0x301 ∷ []) ≡ 0xC4 ∷ 0x301 ∷ []
unfolding marks group composite_in unicode_normalization
a_second_mark_stays = refl

pairs : map (has_pair marks) ((0x41 ∷ 0x308 ∷ []) ∷ (0x45 ∷ 0x301 ∷ []) ∷ (0x41 ∷ []) ∷ []) ≡ true ∷ false ∷ false ∷ []
unfolding marks group composite_in unicode_normalization
pairs = refl
