use Rattle.tt_points_loops.specs.Loosened.{several_loosened}
use Rattle.tt_points_loops.proofs.laws.several_loosened.Goals as goal

pub returns : goal.returns
returns c = several_loosened
