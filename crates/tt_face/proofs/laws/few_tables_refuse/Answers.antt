use Rattle.tt_face.proofs.Instances.{avar-refuses-nothing, faults-come-first, gvar-alone-refuses}
use Rattle.tt_face.proofs.laws.few_tables_refuse.Goals as goal

pub returns-clause-face : goal.returns-clause-face
returns-clause-face c = faults-come-first

pub returns-clause-coordinates : goal.returns-clause-coordinates
returns-clause-coordinates c = avar-refuses-nothing

pub returns-clause-tables : goal.returns-clause-tables
returns-clause-tables c = gvar-alone-refuses
