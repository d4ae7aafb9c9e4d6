use Rattle.tt_deltas.proofs.Moved.{named_move, others_stay}
use Rattle.tt_deltas.proofs.laws.points_move_by_their_deltas.Goals as goal

pub returns-clause-named : goal.returns-clause-named
returns-clause-named c = named_move

pub returns-clause-others : goal.returns-clause-others
returns-clause-others c = others_stay
