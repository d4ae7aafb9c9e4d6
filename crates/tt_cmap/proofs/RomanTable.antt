-- The code's table of Macintosh Roman is that of the specification.
use Rattle.std.proofs.Common.{◌≡◌, refl}
use Rattle.tt_cmap.specs.Roman.{roman_characters}
use Rattle.tt_cmap.specs.declared.roman.TheConstants.{CHARACTERS}

pub characters_are : CHARACTERS ≡ roman_characters
characters_are = refl
