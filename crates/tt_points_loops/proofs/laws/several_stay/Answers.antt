use Rattle.tt_points_loops.specs.WithAll.{several_stay}
use Rattle.tt_points_loops.proofs.laws.several_stay.Goals as goal

pub returns : goal.returns
returns c = several_stay
