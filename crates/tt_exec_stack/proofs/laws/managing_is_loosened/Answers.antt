use Rattle.tt_exec_stack.proofs.Tolerant.{managing_loosened}
use Rattle.tt_exec_stack.proofs.laws.managing_is_loosened.Goals as goal

pub returns : goal.returns
returns c = managing_loosened
