use Rattle.tt_exec_laws.proofs.PointsWithAll.{points_stay}
use Rattle.tt_exec_laws.proofs.laws.points_stay.Goals as goal

pub returns : goal.returns
returns c = points_stay c.singles_stay.ensures c.several_stay.ensures
