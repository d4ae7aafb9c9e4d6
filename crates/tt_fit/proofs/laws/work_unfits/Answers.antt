use Rattle.tt_fit.proofs.Falling.{unbounded-is-enough, others-are-unbounded, unbounded-stays, spent-work-unfits, spent-programs-unfit-all}
use Rattle.tt_fit.proofs.laws.work_unfits.Goals as goal

pub returns-clause-enough : goal.returns-clause-enough
returns-clause-enough c = unbounded-is-enough

pub returns-clause-others : goal.returns-clause-others
returns-clause-others c = others-are-unbounded

pub returns-clause-stays : goal.returns-clause-stays
returns-clause-stays c = unbounded-stays

pub returns-clause-spent : goal.returns-clause-spent
returns-clause-spent c = spent-work-unfits

pub returns-clause-programs : goal.returns-clause-programs
returns-clause-programs c = spent-programs-unfit-all
