use Rattle.tt_strike_laws.proofs.MeasuredLayouts.{laid_out_as_measured}
use Rattle.tt_strike_laws.proofs.laws.laid_out_as_measured.Goals as goal

pub returns : goal.returns
returns c = laid_out_as_measured c.steps_lead.ensures
