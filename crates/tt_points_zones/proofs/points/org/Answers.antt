use Rattle.std.proofs.Common.{SFits, w32, rules}
use Rattle.std.proofs.lemmas.Int.{to_z-of_z}
use Rattle.tt_points_zones.proofs.points.org.Goals as goal

pub returns-in-Y-clause-exact : goal.returns-in-Y-clause-exact
returns-in-Y-clause-exact c =
    let fits : SFits w32 c.args.p.org_y = search rules in
    rw c.in-Y.is (simp to_z-of_z)
