use Rattle.tt_line.proofs.Texts.{glyphs-are-placed}
use Rattle.tt_line.proofs.laws.glyphs_are_placed.Goals as goal

pub returns : goal.returns
returns c = glyphs-are-placed
