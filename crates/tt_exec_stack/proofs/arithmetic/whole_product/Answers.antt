use Rattle.std.proofs.Common.{◌^◌, ◌≤◌, ◌*ℤ◌, SFits, w32, w64, unsigned_abs, refl, rules, arith}
use Rattle.std.proofs.Math.Nat.{mul-le-mul_left}
use Rattle.std.proofs.lemmas.Int.{ints, to_z-of_z, fits_signed_mul, unsigned_abs-mul}
use Rattle.tt_exec_stack.proofs.arithmetic.whole_product.Goals as goal

pub returns-clause-exact : goal.returns-clause-exact
returns-clause-exact c =
    let a : SFits w32 c.args.a = c.ranges.a in
    let b : SFits w32 c.args.b = c.ranges.b in
    let wide_a : SFits w64 c.from.result = search rules in
    let wide_b : SFits w64 c.from-2.result = search rules in
    let is_a = simp to_z-of_z at c.from.ensures in
    let is_b = simp to_z-of_z at c.from-2.ensures in
    let left : unsigned_abs c.from.result ≤ 2 ^ 31 = omega (arith, ints) in
    let right : unsigned_abs c.from-2.result ≤ 2 ^ 31 = omega (arith, ints) in
    let product : SFits w64 (c.from.result *ℤ c.from-2.result) =
    fits_signed_mul w64 c.from.result c.from-2.result (2 ^ 31) (2 ^ 31) left right (omega arith) in
    simp to_z-of_z (rw (is_a, is_b) refl)

pub returns-clause-bound : goal.returns-clause-bound
returns-clause-bound c =
    let exact = returns-clause-exact c in
    let left : unsigned_abs c.args.a ≤ 2 ^ 31 = omega (arith, ints, c.ranges.a) in
    let right : unsigned_abs c.args.b ≤ 2 ^ 31 = omega (arith, ints, c.ranges.b) in
    let small = mul-le-mul_left (unsigned_abs c.args.a) right in
    rw exact (omega (arith, unsigned_abs-mul c.args.a c.args.b, small))
