use Rattle.tt_face.proofs.Whole.{face-whole, glyph-tables-whole, programs-whole}
use Rattle.tt_face.proofs.laws.faces_are_whole.Goals as goal

pub returns-clause-face : goal.returns-clause-face
returns-clause-face c = face-whole

pub returns-clause-glyphs : goal.returns-clause-glyphs
returns-clause-glyphs c = glyph-tables-whole

pub returns-clause-programs : goal.returns-clause-programs
returns-clause-programs c = programs-whole
