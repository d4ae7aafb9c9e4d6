use Rattle.tt_fit.proofs.Instances.{defaults-ask-no-deltas}
use Rattle.tt_fit.proofs.laws.defaults_ask_no_deltas.Goals as goal

pub returns : goal.returns
returns c = defaults-ask-no-deltas
