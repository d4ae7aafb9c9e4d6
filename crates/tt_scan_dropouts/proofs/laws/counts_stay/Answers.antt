use Rattle.tt_scan_dropouts.proofs.Counts.{counts_stay}
use Rattle.tt_scan_dropouts.proofs.laws.counts_stay.Goals as goal

pub returns : goal.returns
returns c = counts_stay
