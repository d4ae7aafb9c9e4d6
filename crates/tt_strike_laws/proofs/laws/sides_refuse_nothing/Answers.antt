use Rattle.tt_strike_laws.proofs.SidesRefuse.{grown_refusals, sides_refuse_nothing}
use Rattle.tt_strike_laws.proofs.laws.sides_refuse_nothing.Goals as goal

pub returns-clause-line : goal.returns-clause-line
returns-clause-line c = sides_refuse_nothing

pub returns-clause-grown : goal.returns-clause-grown
returns-clause-grown c = grown_refusals
