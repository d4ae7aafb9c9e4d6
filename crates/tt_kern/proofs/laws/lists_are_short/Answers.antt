use Rattle.tt_kern.proofs.Short.{few-lookups, few-subtables, few-in-kern}
use Rattle.tt_kern.proofs.laws.lists_are_short.Goals as goal

pub returns-clause-lookups : goal.returns-clause-lookups
returns-clause-lookups c = few-lookups

pub returns-clause-subtables : goal.returns-clause-subtables
returns-clause-subtables c = few-subtables

pub returns-clause-kern : goal.returns-clause-kern
returns-clause-kern c = few-in-kern
