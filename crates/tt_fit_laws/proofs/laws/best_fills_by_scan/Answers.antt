use Rattle.tt_fit_laws.proofs.Filling.{unfitted-by-type-one, empty-by-type-one, skipped-by-type-one, fitted-by-scan, off-fills-none, other-types-fill-none}
use Rattle.tt_fit_laws.proofs.laws.best_fills_by_scan.Goals as goal

pub returns-clause-unfitted : goal.returns-clause-unfitted
returns-clause-unfitted c = unfitted-by-type-one

pub returns-clause-empty : goal.returns-clause-empty
returns-clause-empty c = empty-by-type-one

pub returns-clause-skipped : goal.returns-clause-skipped
returns-clause-skipped c = skipped-by-type-one

pub returns-clause-fitted : goal.returns-clause-fitted
returns-clause-fitted c = fitted-by-scan

pub returns-clause-off : goal.returns-clause-off
returns-clause-off c = off-fills-none

pub returns-clause-others : goal.returns-clause-others
returns-clause-others c = other-types-fill-none
