use Rattle.tt_axes.proofs.Shares.{tuple-less, region-less, nothing-at-start, nothing-at-end, all-at-peak, all-at-region-peak}
use Rattle.tt_axes.proofs.laws.shares_fall.Goals as goal

pub returns-clause-tuples : goal.returns-clause-tuples
returns-clause-tuples c = tuple-less

pub returns-clause-regions : goal.returns-clause-regions
returns-clause-regions c = region-less

pub returns-clause-ends : goal.returns-clause-ends
returns-clause-ends c = λ s p e. (nothing-at-start s p e, nothing-at-end s p e)

pub returns-clause-peak : goal.returns-clause-peak
returns-clause-peak c = λ s p ends e. (all-at-peak s p ends, all-at-region-peak s p e)
