use Rattle.tt_scan_ink.proofs.Held.{dropouts_held, edges_held}
use Rattle.tt_scan_ink.proofs.laws.holds_all_ink.Goals as goal

pub returns-clause-edges : goal.returns-clause-edges
returns-clause-edges c = edges_held

pub returns-clause-dropouts : goal.returns-clause-dropouts
returns-clause-dropouts c = dropouts_held
