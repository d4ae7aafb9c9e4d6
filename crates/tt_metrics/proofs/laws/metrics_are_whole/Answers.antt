use Rattle.tt_metrics.proofs.Whole.{metrics-whole}
use Rattle.tt_metrics.proofs.laws.metrics_are_whole.Goals as goal

pub returns : goal.returns
returns c = metrics-whole
