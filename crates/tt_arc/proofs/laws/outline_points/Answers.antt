use Rattle.tt_arc.proofs.Points.{lies_on_outline, black_where}
use Rattle.tt_arc.proofs.laws.outline_points.Goals as goal

pub returns-clause-on : goal.returns-clause-on
returns-clause-on c = lies_on_outline

pub returns-clause-black : goal.returns-clause-black
returns-clause-black c = black_where
