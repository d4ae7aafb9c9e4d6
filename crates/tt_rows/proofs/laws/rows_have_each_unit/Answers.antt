use Rattle.tt_rows.proofs.RowLaws.{drop_blanks, each_unit}
use Rattle.tt_rows.proofs.laws.rows_have_each_unit.Goals as goal

pub returns-clause-units : goal.returns-clause-units
returns-clause-units c = each_unit

pub returns-clause-blanks : goal.returns-clause-blanks
returns-clause-blanks c = drop_blanks
