use Rattle.tt_fit_laws.proofs.Originals.{originals-are-scaled, defaults-begin-scaled, originals-are-moved, others-measure-in-pixels}
use Rattle.tt_fit_laws.proofs.laws.originals_are_scaled.Goals as goal

pub returns-clause-scaled : goal.returns-clause-scaled
returns-clause-scaled c = originals-are-scaled

pub returns-clause-begun : goal.returns-clause-begun
returns-clause-begun c = defaults-begin-scaled

pub returns-clause-instance : goal.returns-clause-instance
returns-clause-instance c = originals-are-moved

pub returns-clause-others : goal.returns-clause-others
returns-clause-others c = others-measure-in-pixels
