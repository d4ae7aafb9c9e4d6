use Rattle.tt_cmap.proofs.UnitLaws.{have-characters, plain-texts, characters-are-units, units-are-few}
use Rattle.tt_cmap.proofs.laws.units_have_characters.Goals as goal

pub returns-clause-characters : goal.returns-clause-characters
returns-clause-characters c = have-characters

pub returns-clause-plain : goal.returns-clause-plain
returns-clause-plain c = plain-texts

pub returns-clause-each : goal.returns-clause-each
returns-clause-each c = characters-are-units

pub returns-clause-few : goal.returns-clause-few
returns-clause-few c = units-are-few
