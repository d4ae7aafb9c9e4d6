use Rattle.std.proofs.Common.{length, arith}
use Rattle.tt_tuples.proofs.Axes.{all-holds, nothing-stays, part-holds}
use Rattle.tt_tuples.proofs.laws.parts_hold.Goals as goal

pub returns-clause-parts : goal.returns-clause-parts
returns-clause-parts c = λ cs r. part-holds c.shares_fall.ensures.tuples cs r (length cs)

pub returns-clause-peak : goal.returns-clause-peak
returns-clause-peak c = λ cs r same. all-holds c.shares_fall.ensures.peak cs r (length cs) (length cs) (omega arith) same

pub returns-clause-nothing : goal.returns-clause-nothing
returns-clause-nothing c = λ cs r axes le none. nothing-stays c.shares_fall.ensures.tuples cs r axes (length cs) le none
