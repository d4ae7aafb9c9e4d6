use Rattle.tt_axes.proofs.ShownParts.{parts-read}
use Rattle.tt_axes.proofs.laws.parts_are_read.Goals as goal

pub returns : goal.returns
returns c = parts-read
