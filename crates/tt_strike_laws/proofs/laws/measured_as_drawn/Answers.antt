use Rattle.tt_strike_laws.proofs.Agreeing.{measured_as_drawn}
use Rattle.tt_strike_laws.proofs.laws.measured_as_drawn.Goals as goal

pub returns : goal.returns
returns c = measured_as_drawn
