use Rattle.tt_points_zones.proofs.OnAxis.{on_axis, along_both}
use Rattle.tt_points_zones.proofs.laws.on_axes.Goals as goal

pub returns-clause-points : goal.returns-clause-points
returns-clause-points c = on_axis c.on_axes.ensures.x c.on_axes.ensures.y

pub returns-clause-direction : goal.returns-clause-direction
returns-clause-direction c = along_both
