use Rattle.tt_fit_laws.proofs.Hinted.{empty-is-off, switched-is-off, unfitted-is-off}
use Rattle.tt_fit_laws.proofs.Leftovers.{leftovers-fit}
use Rattle.tt_fit_laws.proofs.Plain.{off-is-plain}
use Rattle.tt_fit_laws.proofs.laws.hinting_is_off.Goals as goal

pub returns-clause-empty : goal.returns-clause-empty
returns-clause-empty c = empty-is-off

pub returns-clause-leftovers : goal.returns-clause-leftovers
returns-clause-leftovers c = leftovers-fit

pub returns-clause-switched : goal.returns-clause-switched
returns-clause-switched c = switched-is-off

pub returns-clause-unfitted : goal.returns-clause-unfitted
returns-clause-unfitted c = unfitted-is-off

pub returns-clause-plain : goal.returns-clause-plain
returns-clause-plain c = off-is-plain
