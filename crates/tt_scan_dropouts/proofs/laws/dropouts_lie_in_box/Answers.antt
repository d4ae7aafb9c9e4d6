use Rattle.tt_scan_dropouts.proofs.Clips.{dropout_boxed}
use Rattle.tt_scan_dropouts.proofs.laws.dropouts_lie_in_box.Goals as goal

pub returns : goal.returns
returns c = λ rules contours col row held is. dropout_boxed rules contours col row held is
