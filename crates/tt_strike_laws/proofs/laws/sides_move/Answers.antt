use Rattle.tt_strike_laws.proofs.Larger.{sides_move}
use Rattle.tt_strike_laws.proofs.laws.sides_move.Goals as goal

pub returns : goal.returns
returns c = sides_move
