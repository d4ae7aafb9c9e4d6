use Rattle.tt_core.proofs.Whole.{directory-whole, directory-kept, table-whole}
use Rattle.tt_core.proofs.laws.tables_are_whole.Goals as goal

pub returns-clause-directory : goal.returns-clause-directory
returns-clause-directory c = directory-whole

pub returns-clause-same : goal.returns-clause-same
returns-clause-same c = directory-kept

pub returns-clause-table : goal.returns-clause-table
returns-clause-table c = table-whole
