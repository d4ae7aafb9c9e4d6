use Rattle.std.proofs.Common.{SFits, w32, w64, rules}
use Rattle.std.proofs.lemmas.Int.{to_z-of_z}
use Rattle.tt_points_zones.proofs.motion.Motion.put_further.Goals as goal

pub returns-clause-exact : goal.returns-clause-exact
returns-clause-exact c =
    let units_x : SFits w32 c.args.p.units_x = search rules in
    let units_y : SFits w32 c.args.p.units_y = search rules in
    let org_x : SFits w32 c.args.p.org_x = search rules in
    let org_y : SFits w32 c.args.p.org_y = search rules in
    let x : SFits w32 c.in_ok-pushed_to.field-0 = search rules in
    let y : SFits w32 c.in_ok-pushed_to-2.field-0 = search rules in
    simp to_z-of_z (search rules)

pub returns-in_err-pushed_to-2-clause-exact : goal.returns-in_err-pushed_to-2-clause-exact
returns-in_err-pushed_to-2-clause-exact c =
    let px : SFits w32 c.args.p.x = search rules in
    let py : SFits w32 c.args.p.y = search rules in
    let free_x : SFits w32 c.x.result = search rules in
    let free_y : SFits w32 c.y.result = search rules in
    let by_x : SFits w64 c.args.by.x = search rules in
    let by_y : SFits w64 c.args.by.y = search rules in
    let first = simp to_z-of_z at c.in_ok-pushed_to.ensures.exact in
    let second = simp to_z-of_z at c.in_err-pushed_to-2.ensures.exact in
    rw (← c.x.ensures.exact, ← c.y.ensures.exact, first, second) (search rules)
