use Rattle.tt_c_labels.proofs.Commands.{labels_are_the_commands}
use Rattle.tt_c_labels.proofs.laws.labels_are_the_commands.Goals as goal

pub returns : goal.returns
returns c = labels_are_the_commands
