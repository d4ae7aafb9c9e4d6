use Rattle.tt_fit_laws.proofs.Bounds.{outlines-counted}
use Rattle.tt_fit_laws.proofs.laws.outlines_are_counted.Goals as goal

pub returns : goal.returns
returns c = outlines-counted
