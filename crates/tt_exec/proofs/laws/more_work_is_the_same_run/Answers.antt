use Rattle.tt_exec.proofs.MoreWork.{ends_stay, faults_stay}
use Rattle.tt_exec.proofs.laws.more_work_is_the_same_run.Goals as goal

pub returns-clause-ends : goal.returns-clause-ends
returns-clause-ends c = ends_stay

pub returns-clause-faults : goal.returns-clause-faults
returns-clause-faults c = faults_stay
