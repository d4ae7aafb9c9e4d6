use Rattle.std.proofs.Common.{◌+ℤ◌, SFits, w16, w32, w64, refl, rules, arith}
use Rattle.std.proofs.lemmas.Int.{ints, to_z-of_z}
use Rattle.tt_fit_outline.proofs.component.sum_rounded.Goals as goal

pub returns-clause-exact : goal.returns-clause-exact
returns-clause-exact c =
    let row_x : SFits w16 c.args.row.x = search rules in
    let row_y : SFits w16 c.args.row.y = search rules in
    let point_x : SFits w32 c.args.point.0 = search rules in
    let point_y : SFits w32 c.args.point.1 = search rules in
    let x : SFits w64 c.times.result = search rules in
    let y : SFits w64 c.times-2.result = search rules in
    let sum : SFits w64 (c.times.result +ℤ c.times-2.result) = omega (arith, ints) in
    let quotient : SFits w64 c.rq.result = search rules in
    let is_x = simp to_z-of_z at c.times.ensures.exact in
    let is_y = simp to_z-of_z at c.times-2.ensures.exact in
    let exact = simp to_z-of_z at c.rq.ensures.exact in
    simp to_z-of_z (rw (exact, is_x, is_y) refl)
