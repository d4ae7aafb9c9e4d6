use Rattle.tt_strike_laws.proofs.StepLaws.{moved_outlines_agree}
use Rattle.tt_strike_laws.proofs.laws.moved_outlines_agree.Goals as goal

pub returns : goal.returns
returns c = moved_outlines_agree
