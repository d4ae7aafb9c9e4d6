-- A unit without a selector has its character's glyph.
use Rattle.std.proofs.Common.{◌≡◌, None, refl}
use Rattle.tt_cmap.specs.declared.units.TextUnit.{TextUnit}
use Rattle.tt_cmap.specs.Maps.{CharacterMap, strict, wide, glyph_by, glyph_of_unit}

pub no-selector : (m : CharacterMap) (u : TextUnit) → u.selector ≡ None → glyph_of_unit m u ≡ glyph_by m u.character
no-selector (strict m) u none = refl
no-selector (wide m) u none = rw none refl
