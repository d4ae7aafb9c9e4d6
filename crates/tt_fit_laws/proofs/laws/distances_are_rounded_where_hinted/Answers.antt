use Rattle.tt_fit_laws.proofs.Ends.{ends-are-whole, simple-steps-are-whole}
use Rattle.tt_fit_laws.proofs.Hinted.{best-rounds-where-hinted, others-round-always}
use Rattle.tt_fit_laws.proofs.laws.distances_are_rounded_where_hinted.Goals as goal

pub returns-clause-best : goal.returns-clause-best
returns-clause-best c = best-rounds-where-hinted

pub returns-clause-others : goal.returns-clause-others
returns-clause-others c = others-round-always

pub returns-clause-ends : goal.returns-clause-ends
returns-clause-ends c = ends-are-whole

pub returns-clause-steps : goal.returns-clause-steps
returns-clause-steps c = simple-steps-are-whole
