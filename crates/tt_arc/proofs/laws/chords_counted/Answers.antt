use Rattle.tt_arc.proofs.ChordEnds.{eight_by_bend}
use Rattle.tt_arc.proofs.Counts.{counts_are_least}
use Rattle.tt_arc.proofs.laws.chords_counted.Goals as goal

pub returns-clause-least : goal.returns-clause-least
returns-clause-least c = counts_are_least

pub returns-clause-eight : goal.returns-clause-eight
returns-clause-eight c = eight_by_bend
