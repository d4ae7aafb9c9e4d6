use Rattle.tt_face.proofs.Instances.{defaults-are-faces, zero-is-the-default, zero-keeps-faces}
use Rattle.tt_face.proofs.laws.defaults_are_faces.Goals as goal

pub returns-clause-none : goal.returns-clause-none
returns-clause-none c = defaults-are-faces

pub returns-clause-zero : goal.returns-clause-zero
returns-clause-zero c = zero-keeps-faces

pub returns-clause-default : goal.returns-clause-default
returns-clause-default c = zero-is-the-default
