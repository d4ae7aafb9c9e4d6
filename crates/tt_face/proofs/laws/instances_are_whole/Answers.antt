use Rattle.tt_face.proofs.WholeInstances.{instances-are-whole}
use Rattle.tt_face.proofs.laws.instances_are_whole.Goals as goal

pub returns : goal.returns
returns c = instances-are-whole
