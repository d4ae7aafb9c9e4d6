use Rattle.tt_advances.proofs.Advances.{found_whole}
use Rattle.tt_advances.proofs.laws.found_advances_are_whole.Goals as goal

pub returns : goal.returns
returns c = found_whole
