use Rattle.std.proofs.Common.{refl}
use Rattle.tt_picture.proofs.glyph.Glyph.chords.Goals as goal

pub returns : goal.returns
returns c = rw (← c.self.view_is, c.facts.ensures) refl
