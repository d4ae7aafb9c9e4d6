use Rattle.tt_exec_stack.proofs.Tolerant.{managing_total, arithmetic_total, logic_total}
use Rattle.tt_exec_stack.proofs.laws.answers_are_total.Goals as goal

pub returns-clause-managing : goal.returns-clause-managing
returns-clause-managing c = managing_total

pub returns-clause-arithmetic : goal.returns-clause-arithmetic
returns-clause-arithmetic c = arithmetic_total

pub returns-clause-logic : goal.returns-clause-logic
returns-clause-logic c = logic_total
