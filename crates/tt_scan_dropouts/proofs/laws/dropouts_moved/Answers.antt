use Rattle.tt_scan_dropouts.proofs.MovedDots.{dropouts_move}
use Rattle.tt_scan_dropouts.proofs.laws.dropouts_moved.Goals as goal

pub returns : goal.returns
returns c = dropouts_move
