use Rattle.tt_cmap.proofs.Whole.{cmap-whole}
use Rattle.tt_cmap.proofs.laws.cmaps_are_whole.Goals as goal

pub returns : goal.returns
returns c = cmap-whole
