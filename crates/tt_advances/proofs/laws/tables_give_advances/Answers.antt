use Rattle.tt_advances.proofs.Advances.{default_advances, plain_advances}
use Rattle.tt_advances.proofs.laws.tables_give_advances.Goals as goal

pub returns-clause-tables : goal.returns-clause-tables
returns-clause-tables c = plain_advances

pub returns-clause-default : goal.returns-clause-default
returns-clause-default c = default_advances
