use Rattle.tt_axes.proofs.ShownRead.{values-read}
use Rattle.tt_axes.proofs.laws.values_are_read.Goals as goal

pub returns : goal.returns
returns c = values-read
