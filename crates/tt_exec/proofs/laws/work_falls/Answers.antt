use Rattle.tt_exec.proofs.RunCosts.{work_falls}
use Rattle.tt_exec.proofs.laws.work_falls.Goals as goal

pub returns : goal.returns
returns c = work_falls
