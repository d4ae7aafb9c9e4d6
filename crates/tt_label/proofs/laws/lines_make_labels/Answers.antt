use Rattle.tt_label.proofs.OneLineDrawn.{lines_make_labels}
use Rattle.tt_label.proofs.laws.lines_make_labels.Goals as goal

pub returns : goal.returns
returns c = lines_make_labels
