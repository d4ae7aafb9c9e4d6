use Rattle.tt_png.proofs.Lengths.{lengths}
use Rattle.tt_png.proofs.laws.lengths_follow.Goals as goal

pub returns : goal.returns
returns c = lengths
