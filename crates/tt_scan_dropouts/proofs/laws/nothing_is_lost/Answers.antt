use Rattle.tt_scan_dropouts.proofs.Kept.{no_gap_stays_white}
use Rattle.tt_scan_dropouts.proofs.NotLost.{no_dot_is_lost}
use Rattle.tt_scan_dropouts.proofs.laws.nothing_is_lost.Goals as goal

pub returns-clause-gaps : goal.returns-clause-gaps
returns-clause-gaps c = no_gap_stays_white

pub returns-clause-dots : goal.returns-clause-dots
returns-clause-dots c = no_dot_is_lost
