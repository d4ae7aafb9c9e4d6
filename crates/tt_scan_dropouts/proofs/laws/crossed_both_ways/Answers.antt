use Rattle.tt_scan_dropouts.proofs.BothWays.{rows_crossed}
use Rattle.tt_scan_dropouts.proofs.TurnedWinding.{columns_crossed}
use Rattle.tt_scan_dropouts.proofs.laws.crossed_both_ways.Goals as goal

pub returns-clause-rows : goal.returns-clause-rows
returns-clause-rows c = rows_crossed

pub returns-clause-columns : goal.returns-clause-columns
returns-clause-columns c = columns_crossed
