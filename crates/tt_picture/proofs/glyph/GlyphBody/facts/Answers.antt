use Rattle.std.proofs.Common.{refl}
use Rattle.tt_picture.proofs.glyph.GlyphBody.facts.Goals as goal

pub returns-in-Small : goal.returns-in-Small
returns-in-Small c = rw (c.in-Small.is, c.deref.ensures) refl

pub returns-in-Large : goal.returns-in-Large
returns-in-Large c = rw (c.in-Large.is, c.deref-in-Large.ensures) refl
