use Rattle.tt_glyf.proofs.Defects.{glyph-broke, glyph-whole}
use Rattle.tt_glyf.proofs.laws.glyphs_are_whole.Goals as goal

pub returns-clause-whole : goal.returns-clause-whole
returns-clause-whole c = glyph-whole

pub returns-clause-fault : goal.returns-clause-fault
returns-clause-fault c = glyph-broke
