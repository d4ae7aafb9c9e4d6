use Rattle.tt_exec_laws.proofs.PointsLoosened.{points_loosened}
use Rattle.tt_exec_laws.proofs.laws.points_loosened.Goals as goal

pub returns : goal.returns
returns c = points_loosened c.several_loosened.ensures
