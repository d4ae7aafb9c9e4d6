use Rattle.std.proofs.Common.{SFits, w32, rules}
use Rattle.std.proofs.lemmas.Int.{to_z-of_z}
use Rattle.tt_points.proofs.twilight.settled.Goals as goal

pub returns-clause-exact : goal.returns-clause-exact
returns-clause-exact c =
    let units_x : SFits w32 c.args.p.units_x = search rules in
    let units_y : SFits w32 c.args.p.units_y = search rules in
    let x : SFits w32 c.args.p.x = search rules in
    let y : SFits w32 c.args.p.y = search rules in
    simp to_z-of_z
