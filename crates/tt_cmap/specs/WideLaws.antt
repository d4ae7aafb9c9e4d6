-- Lemmas about the definitions of the wide reading. OpenType, "cmap: Character to Glyph Index Mapping Table".
use Rattle.std.specs.Prelude.{◌≡◌, ℕ, ◌<◌, ◌≤◌, Bool, true, false, List, length, map, Ok}
use Rattle.std.specs.List.{All}
use Rattle.tt_core.specs.Directory.{HasNo}
use Rattle.tt_core.specs.Search.{IsLeast}
use Rattle.tt_cmap.specs.declared.records.wide.CodeWay.TheVariants as way
use Rattle.tt_cmap.specs.Halves.{reached, IsReached, NeverFallsBack}
use Rattle.tt_cmap.specs.Lookup.{Cmap, cmap_of, glyph_of}
use Rattle.tt_cmap.specs.Units.{is_selector, plain_unit, units}
use Rattle.tt_cmap.specs.WideDefects.{IsBadWideCmap}
use Rattle.tt_cmap.specs.WideLookup.{WideCmap, wide_cmap_of, wide_glyph_of}
use Rattle.tt_cmap.specs.WideSubtables.{ranged}

-- if a table gives a character map of the wide reading, the table has no defect for that reading
abbrev pub WideCmapsAreWhole : Type 0
WideCmapsAreWhole = (table : List ℕ) (glyphs : ℕ) (m : WideCmap) → wide_cmap_of table glyphs ≡ Ok m
    → HasNo (IsBadWideCmap table)

-- a map of the wide reading has the subtable of a map of the strict reading, and the same glyph for each character
pub record Extends (table : List ℕ) (glyphs : ℕ) (m : Cmap) : Type 0 where
  pub wide : WideCmap
  pub given : wide_cmap_of table glyphs ≡ Ok wide
  pub subtable : wide.subtable ≡ ranged m.subtable
  pub way : wide.way ≡ way.Plain
  pub count : wide.glyphs ≡ m.glyphs
  pub same : (c : ℕ) → wide_glyph_of wide c ≡ glyph_of m c

-- if a table gives a map of the strict reading, the wide reading extends that map
abbrev pub WideExtendsStrict : Type 0
WideExtendsStrict = (table : List ℕ) (glyphs : ℕ) (m : Cmap) → cmap_of table glyphs ≡ Ok m → Extends table glyphs m

-- where a binary search ends, the number passes and the number before it fails; in a list in order, it is the least that
-- passes, or past all
abbrev pub SearchesEnd : Type 0
SearchesEnd = (passes : ℕ → Bool) (n : ℕ) → IsReached passes n (reached n passes)

abbrev pub SearchesFindTheLeast : Type 0
SearchesFindTheLeast = (passes : ℕ → Bool) (n : ℕ) → NeverFallsBack passes n → reached n passes < n
    → IsLeast passes n (reached n passes)

abbrev pub SearchesMissNone : Type 0
SearchesMissNone = (passes : ℕ → Bool) (n : ℕ) → NeverFallsBack passes n → n ≤ reached n passes → (j : ℕ) → j < n
    → passes j ≡ false

-- no unit's character is a selector, if selectors belong to characters
abbrev pub UnitsHaveCharacters : Type 0
UnitsHaveCharacters = (cs : List ℕ) → All (λ u. is_selector u.character ≡ false) (units true cs)

-- each character of a text without selectors is a unit without a selector
abbrev pub PlainTextsStay : Type 0
PlainTextsStay = (cs : List ℕ) → All (λ c. is_selector c ≡ false) cs → units true cs ≡ map plain_unit cs

-- if selectors are characters like others, each character is a unit
abbrev pub CharactersAreUnits : Type 0
CharactersAreUnits = (cs : List ℕ) → units false cs ≡ map plain_unit cs

-- a text has at most as many units as characters
abbrev pub UnitsAreFew : Type 0
UnitsAreFew = (pairs : Bool) (cs : List ℕ) → length (units pairs cs) ≤ length cs
