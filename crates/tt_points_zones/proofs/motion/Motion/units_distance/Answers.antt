use Rattle.std.proofs.Common.{◌≤◌, ◌^◌, unsigned_abs, SFits, w32, w64, rules, arith}
use Rattle.std.proofs.lemmas.Int.{ints, to_z-of_z}
use Rattle.tt_points_zones.proofs.motion.Motion.units_distance.Goals as goal

pub returns-clause-few : goal.returns-clause-few
returns-clause-few c =
    let from_x : SFits w32 c.args.from.units_x = search rules in
    let from_y : SFits w32 c.args.from.units_y = search rules in
    let to_x : SFits w32 c.args.to.units_x = search rules in
    let to_y : SFits w32 c.args.to.units_y = search rules in
    let across : SFits w32 c.way-x.result = search rules in
    let upward : SFits w32 c.way-y.result = search rules in
    let wide : SFits w64 c.project.result = search rules in
    let way_x = simp to_z-of_z at c.way-x.ensures.exact in
    let way_y = simp to_z-of_z at c.way-y.ensures.exact in
    let bound = simp to_z-of_z at c.project.ensures.bound in
    let few : unsigned_abs c.project.result ≤ 2 ^ 19 = omega (
      arith,
      ints,
      bound,
      way_x,
      way_y,
      c.requires.from.units_x,
      c.requires.from.units_y,
      c.requires.to.units_x,
      c.requires.to.units_y,
    ) in
    let narrow : SFits w32 c.project.result = omega (arith, ints, few) in
    simp to_z-of_z few

pub returns-clause-exact : goal.returns-clause-exact
returns-clause-exact c =
    let from_x : SFits w32 c.args.from.units_x = search rules in
    let from_y : SFits w32 c.args.from.units_y = search rules in
    let to_x : SFits w32 c.args.to.units_x = search rules in
    let to_y : SFits w32 c.args.to.units_y = search rules in
    let across : SFits w32 c.way-x.result = search rules in
    let upward : SFits w32 c.way-y.result = search rules in
    let wide : SFits w64 c.project.result = search rules in
    let way_x = simp to_z-of_z at c.way-x.ensures.exact in
    let way_y = simp to_z-of_z at c.way-y.ensures.exact in
    let bound = simp to_z-of_z at c.project.ensures.bound in
    let few : unsigned_abs c.project.result ≤ 2 ^ 19 = omega (
      arith,
      ints,
      bound,
      way_x,
      way_y,
      c.requires.from.units_x,
      c.requires.from.units_y,
      c.requires.to.units_x,
      c.requires.to.units_y,
    ) in
    let narrow : SFits w32 c.project.result = omega (arith, ints, few) in
    simp to_z-of_z (rw (way_x, way_y) at (simp to_z-of_z at c.project.ensures.exact))
