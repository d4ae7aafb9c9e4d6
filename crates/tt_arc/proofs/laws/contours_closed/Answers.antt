use Rattle.tt_arc.proofs.Closed.{all_closed}
use Rattle.tt_arc.proofs.laws.contours_closed.Goals as goal

pub returns : goal.returns
returns c = all_closed
