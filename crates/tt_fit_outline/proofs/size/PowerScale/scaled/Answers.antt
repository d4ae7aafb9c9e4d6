use Rattle.std.proofs.Common.{◌≤◌, refl, SFits, w16, w32, w64, unsigned_abs, arith, rules}
use Rattle.std.proofs.lemmas.Int.{to_z-of_z, ints}
use Rattle.tt_core.specs.Limits.{coordinate_limit}
use Rattle.tt_fit_outline.proofs.Shifts.{quotient-within}
use Rattle.tt_fit_outline.proofs.size.PowerScale.scaled.Goals as goal

pub overflow_cast-result : goal.overflow_cast-result
overflow_cast-result c =
    let n : SFits w64 c.product.result = search rules in
    let q : SFits w64 c.quotient.result = search rules in
    let is = simp to_z-of_z at c.quotient.ensures in
    let within = quotient-within c.args.self.scale.halves c.product.result c.args.self.scale.units coordinate_limit
    c.args.self.valid.some (omega (arith, c.product.ensures.bound, c.args.self.within)) in
    let small : unsigned_abs c.quotient.result ≤ coordinate_limit = rw is within in
    simp to_z-of_z (omega (arith, ints, small))

pub returns-clause-exact : goal.returns-clause-exact
returns-clause-exact c =
    let v : SFits w16 c.args.v = c.ranges.v in
    let n : SFits w64 c.product.result = search rules in
    let q : SFits w64 c.quotient.result = search rules in
    let is = simp to_z-of_z at c.quotient.ensures in
    let value = simp to_z-of_z at c.product.ensures.exact in
    let within = quotient-within c.args.self.scale.halves c.product.result c.args.self.scale.units coordinate_limit
    c.args.self.valid.some (omega (arith, c.product.ensures.bound, c.args.self.within)) in
    let small : unsigned_abs c.quotient.result ≤ coordinate_limit = rw is within in
    let fits : SFits w32 c.quotient.result = omega (arith, ints, small) in
    simp to_z-of_z (rw (is, value) refl)

pub returns-clause-within : goal.returns-clause-within
returns-clause-within c =
    let n : SFits w64 c.product.result = search rules in
    let q : SFits w64 c.quotient.result = search rules in
    let is = simp to_z-of_z at c.quotient.ensures in
    let within = quotient-within c.args.self.scale.halves c.product.result c.args.self.scale.units coordinate_limit
    c.args.self.valid.some (omega (arith, c.product.ensures.bound, c.args.self.within)) in
    let small : unsigned_abs c.quotient.result ≤ coordinate_limit = rw is within in
    let fits : SFits w32 c.quotient.result = omega (arith, ints, small) in
    simp to_z-of_z small
