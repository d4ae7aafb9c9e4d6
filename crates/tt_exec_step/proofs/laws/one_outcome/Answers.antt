use Rattle.tt_exec_step.proofs.Single.{outcome}
use Rattle.tt_exec_step.proofs.laws.one_outcome.Goals as goal

pub returns : goal.returns
returns c = λ state. outcome state
