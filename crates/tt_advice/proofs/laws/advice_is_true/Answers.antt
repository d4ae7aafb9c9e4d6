use Rattle.tt_advice.proofs.Truth.{cff_is_there, faces_are_counted, programs_are_refused}
use Rattle.tt_advice.proofs.laws.advice_is_true.Goals as goal

pub returns-clause-cff : goal.returns-clause-cff
returns-clause-cff c = cff_is_there

pub returns-clause-faces : goal.returns-clause-faces
returns-clause-faces c = faces_are_counted

pub returns-clause-programs : goal.returns-clause-programs
returns-clause-programs c = programs_are_refused
