use Rattle.tt_deltas_inference.proofs.ByNumber.{none_named_at, all_contours_named}
use Rattle.tt_deltas_inference.proofs.Whole.{named_stays, phantoms_stay}
use Rattle.tt_deltas_inference.proofs.laws.named_points_stay.Goals as goal

pub returns-clause-named : goal.returns-clause-named
returns-clause-named c = named_stays

pub returns-clause-phantom : goal.returns-clause-phantom
returns-clause-phantom c = phantoms_stay

pub returns-clause-alone : goal.returns-clause-alone
returns-clause-alone c = none_named_at

pub returns-clause-whole : goal.returns-clause-whole
returns-clause-whole c = all_contours_named
