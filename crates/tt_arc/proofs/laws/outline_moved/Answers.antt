use Rattle.tt_arc.proofs.Moves.{outline_at}
use Rattle.tt_arc.proofs.laws.outline_moved.Goals as goal

pub returns : goal.returns
returns c = outline_at
