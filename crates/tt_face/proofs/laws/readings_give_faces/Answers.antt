use Rattle.tt_face.proofs.Readings.{read-face-whole, strict-face, face-moves, wide-faces-extend}
use Rattle.tt_face.proofs.laws.readings_give_faces.Goals as goal

pub returns-clause-whole : goal.returns-clause-whole
returns-clause-whole c = read-face-whole

pub returns-clause-strict : goal.returns-clause-strict
returns-clause-strict c = strict-face

pub returns-clause-fonts : goal.returns-clause-fonts
returns-clause-fonts c = face-moves

pub returns-clause-extends : goal.returns-clause-extends
returns-clause-extends c = wide-faces-extend
