use Rattle.tt_line.proofs.Texts.{steps-lead}
use Rattle.tt_line.proofs.laws.steps_lead.Goals as goal

pub returns : goal.returns
returns c = steps-lead
