use Rattle.tt_fit_laws.proofs.Unvaried.{defaults-are-unvaried, defaults-cost-the-same}
use Rattle.tt_fit_laws.proofs.laws.defaults_are_unvaried.Goals as goal

pub returns-clause-outlines : goal.returns-clause-outlines
returns-clause-outlines c = defaults-are-unvaried

pub returns-clause-work : goal.returns-clause-work
returns-clause-work c = defaults-cost-the-same
