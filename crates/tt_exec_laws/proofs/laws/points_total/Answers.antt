use Rattle.tt_exec_laws.proofs.PointsTotal.{points_total}
use Rattle.tt_exec_laws.proofs.laws.points_total.Goals as goal

pub returns : goal.returns
returns c = points_total c.singles_enough.ensures c.several_total.ensures
