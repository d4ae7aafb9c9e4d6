use Rattle.std.proofs.Common.{rules}
use Rattle.tt_exec.specs.Work.{slowness}
use Rattle.tt_exec.proofs.paying.cost_by.Goals as goal

pub returns-in-27 : goal.returns-in-27
unfolding slowness
returns-in-27 c = search rules
