use Rattle.std.proofs.Common.{◌≡◌, ◌++◌, drop, flat_map}
use Rattle.tt_bdf.specs.Bitmap.{character_text}
use Rattle.tt_bdf.specs.Facts.{facts_of}
use Rattle.tt_bdf.specs.Head.{head_text}
use Rattle.tt_bdf.proofs.file.bdf_file.Given as goal

-- the text so far, and then the lines of the remaining characters
abbrev pub invariant-loop-c : goal.invariant-loop-c
invariant-loop-c l =
    l.text.items ++ flat_map (character_text l.font.em l.rows) (drop l.c-index l.characters)
    ≡ head_text (facts_of l.font) l.characters ++ flat_map (character_text l.font.em l.rows) l.characters
