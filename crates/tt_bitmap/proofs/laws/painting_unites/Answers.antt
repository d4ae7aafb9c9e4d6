use Rattle.tt_bitmap.proofs.United.{either_order, once_more, united}
use Rattle.tt_bitmap.proofs.laws.painting_unites.Goals as goal

pub returns-clause-both : goal.returns-clause-both
returns-clause-both c = united

pub returns-clause-order : goal.returns-clause-order
returns-clause-order c = either_order

pub returns-clause-twice : goal.returns-clause-twice
returns-clause-twice c = once_more
