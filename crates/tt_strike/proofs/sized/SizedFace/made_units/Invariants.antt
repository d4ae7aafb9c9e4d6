use Rattle.std.proofs.Common.{◌≡◌, map, take}
use Rattle.tt_advances.specs.Found.{units_of}
use Rattle.tt_picture.specs.Glyphs.{numbers_of}
use Rattle.tt_strike.proofs.sized.SizedFace.made_units.Given as goal

-- the advances of the glyphs so far
abbrev pub invariant-loop-glyph : goal.invariant-loop-glyph
invariant-loop-glyph l = l.units.items ≡ map (units_of l.fn.self.face) (numbers_of (take l.glyph-index l.made))
