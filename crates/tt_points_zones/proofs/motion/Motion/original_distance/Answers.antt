use Rattle.std.proofs.Common.{SFits, w32, w64, rules}
use Rattle.std.proofs.lemmas.Int.{to_z-of_z}
use Rattle.tt_points_zones.proofs.motion.Motion.original_distance.Goals as goal

pub returns-clause-exact : goal.returns-clause-exact
returns-clause-exact c =
    let from_x : SFits w32 c.args.from.org_x = search rules in
    let from_y : SFits w32 c.args.from.org_y = search rules in
    let to_x : SFits w32 c.args.to.org_x = search rules in
    let to_y : SFits w32 c.args.to.org_y = search rules in
    let across : SFits w32 c.way.result = search rules in
    let upward : SFits w32 c.way-2.result = search rules in
    let fits : SFits w64 c.project.result = search rules in
    let way_x = simp to_z-of_z at c.way.ensures.exact in
    let way_y = simp to_z-of_z at c.way-2.ensures.exact in
    simp to_z-of_z (rw (way_x, way_y) at (simp to_z-of_z at c.project.ensures.exact))
