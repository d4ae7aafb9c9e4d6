use Rattle.tt_arc.proofs.BoxMoves.{box_moved}
use Rattle.tt_arc.proofs.PointsBox.{box_holds_edges}
use Rattle.tt_arc.proofs.laws.points_boxed.Goals as goal

pub returns-clause-held : goal.returns-clause-held
returns-clause-held c = box_holds_edges

pub returns-clause-moved : goal.returns-clause-moved
returns-clause-moved c = box_moved
