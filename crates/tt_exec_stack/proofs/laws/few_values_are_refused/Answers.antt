use Rattle.tt_exec_stack.proofs.Tolerant.{managing_short, arithmetic_short, logic_short}
use Rattle.tt_exec_stack.proofs.laws.few_values_are_refused.Goals as goal

pub returns-clause-managing : goal.returns-clause-managing
returns-clause-managing c = managing_short

pub returns-clause-arithmetic : goal.returns-clause-arithmetic
returns-clause-arithmetic c = arithmetic_short

pub returns-clause-logic : goal.returns-clause-logic
returns-clause-logic c = logic_short
