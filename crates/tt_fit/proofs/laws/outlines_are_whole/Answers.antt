use Rattle.tt_fit.proofs.Standing.{outlines-whole, faults-stand}
use Rattle.tt_fit.proofs.laws.outlines_are_whole.Goals as goal

pub returns-clause-whole : goal.returns-clause-whole
returns-clause-whole c = outlines-whole

pub returns-clause-fault : goal.returns-clause-fault
returns-clause-fault c = faults-stand
