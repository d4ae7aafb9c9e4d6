use Rattle.tt_fit_laws.proofs.Fewer.{best-is-bounded, work-falls}
use Rattle.tt_fit_laws.proofs.laws.work_falls.Goals as goal

pub returns-clause-begun : goal.returns-clause-begun
returns-clause-begun c = best-is-bounded

pub returns-clause-falls : goal.returns-clause-falls
returns-clause-falls c = work-falls
