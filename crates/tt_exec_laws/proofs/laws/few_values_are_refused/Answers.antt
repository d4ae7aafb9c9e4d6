use Rattle.tt_exec_laws.proofs.PointsShort.{points_short}
use Rattle.tt_exec_laws.proofs.laws.few_values_are_refused.Goals as goal

pub returns : goal.returns
returns c = points_short
