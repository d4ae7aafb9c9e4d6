use Rattle.std.proofs.Common.{SFits, w32, w64, rules, arith}
use Rattle.std.proofs.lemmas.Int.{ints, to_z-of_z}
use Rattle.tt_points_zones.proofs.motion.Motion.org.Goals as goal

pub returns-clause-exact : goal.returns-clause-exact
returns-clause-exact c =
    let x : SFits w32 c.args.p.org_x = search rules in
    let y : SFits w32 c.args.p.org_y = search rules in
    let wide : SFits w64 c.project.result = search rules in
    let few : SFits w32 c.project.result =
    omega (arith, ints, c.project.ensures.bound, c.requires.org_x, c.requires.org_y) in
    simp to_z-of_z (simp to_z-of_z at c.project.ensures.exact)
