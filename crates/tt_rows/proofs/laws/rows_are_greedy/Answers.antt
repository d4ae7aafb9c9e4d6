use Rattle.tt_rows.proofs.RowLaws.{lines_stay, rows_are_longest, rows_fit, words_break}
use Rattle.tt_rows.proofs.laws.rows_are_greedy.Goals as goal

pub returns-clause-fit : goal.returns-clause-fit
returns-clause-fit c = rows_fit

pub returns-clause-longest : goal.returns-clause-longest
returns-clause-longest c = rows_are_longest

pub returns-clause-need : goal.returns-clause-need
returns-clause-need c = words_break

pub returns-clause-whole : goal.returns-clause-whole
returns-clause-whole c = lines_stay
