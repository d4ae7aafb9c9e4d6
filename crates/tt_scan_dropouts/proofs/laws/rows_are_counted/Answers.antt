use Rattle.tt_scan_dropouts.proofs.Counts.{rows_are_counted}
use Rattle.tt_scan_dropouts.proofs.laws.rows_are_counted.Goals as goal

pub returns : goal.returns
returns c = rows_are_counted
