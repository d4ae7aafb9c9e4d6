use Rattle.tt_label.proofs.LabelApart.{baselines_are_apart}
use Rattle.tt_label.proofs.laws.baselines_are_apart.Goals as goal

pub returns : goal.returns
returns c = baselines_are_apart
