use Rattle.std.proofs.Common.{refl}
use Rattle.tt_picture.proofs.glyph.LargeGlyph.uncut.Goals as goal

pub returns-clause-body : goal.returns-clause-body
returns-clause-body c = rw c.in_ok-new.ensures.ok refl

pub returns-clause-facts : goal.returns-clause-facts
returns-clause-facts c = rw c.in_ok-new.ensures.ok refl
