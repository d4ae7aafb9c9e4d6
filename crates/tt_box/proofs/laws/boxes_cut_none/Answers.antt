use Rattle.tt_box.proofs.NoneCut.{none_cut}
use Rattle.tt_box.proofs.laws.boxes_cut_none.Goals as goal

pub returns : goal.returns
returns c = none_cut
