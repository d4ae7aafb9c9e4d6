use Rattle.tt_exec.proofs.RunCosts.{spent_work}
use Rattle.tt_exec.proofs.laws.spent_work.Goals as goal

pub returns : goal.returns
returns c = spent_work
