use Rattle.tt_scan_dropouts.proofs.White.{by_both, by_columns, by_rows}
use Rattle.tt_scan_dropouts.proofs.laws.added_were_white.Goals as goal

pub returns-clause-rows : goal.returns-clause-rows
returns-clause-rows c = by_rows

pub returns-clause-columns : goal.returns-clause-columns
returns-clause-columns c = by_columns

pub returns-clause-both : goal.returns-clause-both
returns-clause-both c = by_both
