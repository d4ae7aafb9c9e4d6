use Rattle.tt_fit.proofs.Instances.{best-reads-places, others-read-no-instance}
use Rattle.tt_fit.proofs.laws.others_read_no_instance.Goals as goal

pub returns-clause-others : goal.returns-clause-others
returns-clause-others c = others-read-no-instance

pub returns-clause-best : goal.returns-clause-best
returns-clause-best c = best-reads-places
