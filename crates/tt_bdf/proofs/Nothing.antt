-- The value that a read past the end of a list of characters gives.
use Rattle.std.proofs.Common.{pos}
use Rattle.tt_bdf.specs.declared.character.BdfCharacter.{BdfCharacter}

abbrev pub none : BdfCharacter
none = record { code = 0; units = 0; advance = 0; left = pos 0; top = pos 0; width = 0; height = 0; at = 0 }
