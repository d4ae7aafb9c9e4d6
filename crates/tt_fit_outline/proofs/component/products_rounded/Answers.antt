use Rattle.std.proofs.Common.{◌+ℤ◌, SFits, w16, w32, w64, refl, rules, arith}
use Rattle.std.proofs.lemmas.Int.{ints, to_z-of_z}
use Rattle.tt_fit_outline.proofs.component.products_rounded.Goals as goal

pub returns-clause-exact : goal.returns-clause-exact
returns-clause-exact c =
    let row_x : SFits w16 c.args.row.x = search rules in
    let row_y : SFits w16 c.args.row.y = search rules in
    let point_x : SFits w32 c.args.point.0 = search rules in
    let point_y : SFits w32 c.args.point.1 = search rules in
    let x : SFits w64 c.product_rounded.result = search rules in
    let y : SFits w64 c.product_rounded-2.result = search rules in
    let sum : SFits w64 (c.product_rounded.result +ℤ c.product_rounded-2.result) = omega
    (arith, ints, c.product_rounded.ensures.bound, c.product_rounded-2.ensures.bound) in
    let is_x = simp to_z-of_z at c.product_rounded.ensures.exact in
    let is_y = simp to_z-of_z at c.product_rounded-2.ensures.exact in
    simp to_z-of_z (rw (is_x, is_y) refl)
