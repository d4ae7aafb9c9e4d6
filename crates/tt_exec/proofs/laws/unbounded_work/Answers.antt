use Rattle.tt_exec.proofs.WorkPaid.{unbounded}
use Rattle.tt_exec.proofs.laws.unbounded_work.Goals as goal

pub returns : goal.returns
returns c = λ m. unbounded m
