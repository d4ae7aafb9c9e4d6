use Rattle.tt_strike_laws.proofs.Beside.{margins_move}
use Rattle.tt_strike_laws.proofs.laws.margins_move.Goals as goal

pub returns : goal.returns
returns c = margins_move
