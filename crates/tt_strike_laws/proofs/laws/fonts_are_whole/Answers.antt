use Rattle.tt_face.proofs.Whole.{face-whole}
use Rattle.tt_strike_laws.proofs.Whole.{drawn-whole}
use Rattle.tt_strike_laws.proofs.laws.fonts_are_whole.Goals as goal

pub returns-clause-picture : goal.returns-clause-picture
returns-clause-picture c =
    drawn-whole c.instances_are_whole.ensures c.glyphs_are_placed.ensures c.steps_lead.ensures

pub returns-clause-tables : goal.returns-clause-tables
returns-clause-tables c = face-whole

pub returns-clause-readings : goal.returns-clause-readings
returns-clause-readings c = c.readings_give_faces.ensures.whole
