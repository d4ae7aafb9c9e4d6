use Rattle.tt_arc.proofs.ChordEnds.{chords_join, chords_move, chords_nest, chords_turned, eight_are_exact, ends_are_near, ends_rise}
use Rattle.tt_arc.proofs.ChordsNear.{chords_are_near}
use Rattle.tt_arc.proofs.laws.chords_placed.Goals as goal

pub returns-clause-moved : goal.returns-clause-moved
returns-clause-moved c = chords_move

pub returns-clause-joined : goal.returns-clause-joined
returns-clause-joined c = chords_join

pub returns-clause-nested : goal.returns-clause-nested
returns-clause-nested c = chords_nest

pub returns-clause-turned : goal.returns-clause-turned
returns-clause-turned c = chords_turned

pub returns-clause-near : goal.returns-clause-near
returns-clause-near c = ends_are_near

pub returns-clause-rising : goal.returns-clause-rising
returns-clause-rising c = ends_rise

pub returns-clause-exact : goal.returns-clause-exact
returns-clause-exact c = eight_are_exact

pub returns-clause-along : goal.returns-clause-along
returns-clause-along c = chords_are_near
