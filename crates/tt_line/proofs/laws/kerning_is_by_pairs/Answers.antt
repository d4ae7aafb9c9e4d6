use Rattle.tt_line.proofs.Stepped.{looks-ahead, no-table, unkerned-lines}
use Rattle.tt_line.proofs.laws.kerning_is_by_pairs.Goals as goal

pub returns-clause-unkerned : goal.returns-clause-unkerned
returns-clause-unkerned c = unkerned-lines

pub returns-clause-none : goal.returns-clause-none
returns-clause-none c = no-table

pub returns-clause-ahead : goal.returns-clause-ahead
returns-clause-ahead c = looks-ahead
