use Rattle.tt_points.specs.WithAll.{singles_stay}
use Rattle.tt_points.proofs.laws.singles_stay.Goals as goal

pub returns : goal.returns
returns c = singles_stay
