use Rattle.tt_line.proofs.Texts.{advances-are-steps}
use Rattle.tt_line.proofs.laws.advances_are_steps.Goals as goal

pub returns : goal.returns
returns c = advances-are-steps
