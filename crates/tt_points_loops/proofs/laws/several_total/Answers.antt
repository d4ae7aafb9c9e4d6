use Rattle.tt_points_loops.specs.Total.{several_total}
use Rattle.tt_points_loops.proofs.laws.several_total.Goals as goal

pub returns : goal.returns
returns c = several_total
