use Rattle.tt_scan_dropouts.proofs.Counts.{bands_are_counted, bitmap_is_counted}
use Rattle.tt_scan_dropouts.proofs.laws.bitmaps_are_counted.Goals as goal

pub returns-clause-part : goal.returns-clause-part
returns-clause-part c = bitmap_is_counted

pub returns-clause-bands : goal.returns-clause-bands
returns-clause-bands c = bands_are_counted
