use Rattle.tt_exec_stack.proofs.Tolerant.{padded_enough, enough_stays}
use Rattle.tt_exec_stack.proofs.laws.padding_is_enough.Goals as goal

pub returns-clause-enough : goal.returns-clause-enough
returns-clause-enough c = padded_enough

pub returns-clause-stays : goal.returns-clause-stays
returns-clause-stays c = enough_stays
