use Rattle.tt_face.proofs.Plain.{opened-face-whole, plain-rules-keep, rules-keep-faults}
use Rattle.tt_face.proofs.laws.rules_keep_faces.Goals as goal

pub returns-clause-plain : goal.returns-clause-plain
returns-clause-plain c = plain-rules-keep

pub returns-clause-faults : goal.returns-clause-faults
returns-clause-faults c = rules-keep-faults

pub returns-clause-whole : goal.returns-clause-whole
returns-clause-whole c = opened-face-whole
