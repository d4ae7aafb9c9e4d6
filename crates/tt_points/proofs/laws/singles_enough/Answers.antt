use Rattle.tt_points.specs.Enough.{singles_enough}
use Rattle.tt_points.proofs.laws.singles_enough.Goals as goal

pub returns : goal.returns
returns c = singles_enough
