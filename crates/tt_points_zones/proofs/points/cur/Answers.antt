use Rattle.std.proofs.Common.{SFits, w32, rules}
use Rattle.std.proofs.lemmas.Int.{to_z-of_z}
use Rattle.tt_points_zones.proofs.points.cur.Goals as goal

pub returns-in-X-clause-exact : goal.returns-in-X-clause-exact
returns-in-X-clause-exact c =
    let fits : SFits w32 c.args.p.x = search rules in
    rw c.in-X.is (simp to_z-of_z)
