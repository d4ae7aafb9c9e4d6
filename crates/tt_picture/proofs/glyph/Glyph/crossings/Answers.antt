use Rattle.std.proofs.Common.{refl}
use Rattle.tt_picture.proofs.glyph.Glyph.crossings.Goals as goal

pub returns : goal.returns
returns c = rw (← c.self.view_is, c.facts.ensures) refl
