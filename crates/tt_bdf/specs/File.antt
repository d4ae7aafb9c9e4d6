-- Adobe, "Glyph Bitmap Distribution Format (BDF) Specification", version 2.1: a file.
use Rattle.std.specs.Prelude.{ℕ, List, ◌++◌, flat_map, codes}
use Rattle.tt_bdf.specs.Bitmap.{character_text}
use Rattle.tt_bdf.specs.declared.character.BdfCharacter.{BdfCharacter}
use Rattle.tt_bdf.specs.Facts.{FontFacts}
use Rattle.tt_bdf.specs.Head.{head_text}

abbrev pub characters_text : ℕ → List ℕ → List BdfCharacter → List ℕ
characters_text em rows cs = flat_map (character_text em rows) cs

-- the font's lines, the characters' lines and the last line
unfoldable pub bdf_text : FontFacts → List BdfCharacter → List ℕ → List ℕ
bdf_text f cs rows = head_text f cs ++ (characters_text f.em rows cs ++ codes "ENDFONT\n")
