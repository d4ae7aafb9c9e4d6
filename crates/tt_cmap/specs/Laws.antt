-- Lemmas about the definitions: a result has no defect, and which texts lack no glyph. OpenType, "cmap: Character to
-- Glyph Index Mapping Table".
use Rattle.std.specs.Prelude.{◌≡◌, ◌↔◌, List, [], ℕ, Ok}
use Rattle.tt_core.specs.Directory.{HasNo}
use Rattle.tt_cmap.specs.Defects.{IsBadCmap}
use Rattle.tt_cmap.specs.Lacking.{AllHaveGlyphs, lacking_of}
use Rattle.tt_cmap.specs.Lookup.{Cmap, cmap_of}
use Rattle.tt_cmap.specs.Maps.{CharacterMap}

-- if a table gives a character map, the table has no defect
abbrev pub CmapsAreWhole : Type 0
CmapsAreWhole = (table : List ℕ) (glyphs : ℕ) (cmap : Cmap) → cmap_of table glyphs ≡ Ok cmap
    → HasNo (IsBadCmap table)

-- the list of a text's characters without glyphs is empty if and only if all its units have glyphs
abbrev pub FullTextsLackNothing : Type 0
FullTextsLackNothing = (cmap : CharacterMap) (text : List ℕ) → (lacking_of cmap text ≡ []) ↔ AllHaveGlyphs cmap text
