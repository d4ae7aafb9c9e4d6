use Rattle.tt_strike_laws.proofs.Agreeing.{grown_measured_as_drawn}
use Rattle.tt_strike_laws.proofs.laws.grown_measured_as_drawn.Goals as goal

pub returns : goal.returns
returns c = grown_measured_as_drawn
