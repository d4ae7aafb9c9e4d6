use Rattle.std.proofs.Common.{rules}
use Rattle.tt_points_zones.proofs.zones.Zones.points.Goals as goal

pub returns-in-Twilight-clause-exact : goal.returns-in-Twilight-clause-exact
returns-in-Twilight-clause-exact c = search rules
