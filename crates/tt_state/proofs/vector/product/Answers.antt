use Rattle.std.proofs.Common.{◌^◌, ◌≤◌, ◌*ℤ◌, SFits, w64, unsigned_abs, arith, mul-le-mul_left}
use Rattle.std.proofs.lemmas.Int.{ints, to_z-of_z, fits_signed_mul, unsigned_abs-mul}
use Rattle.tt_state.proofs.vector.product.Goals as goal

pub returns-clause-exact : goal.returns-clause-exact
returns-clause-exact c =
    let a : SFits w64 c.args.a.0 = omega (arith, ints, c.requires.a) in
    let b : SFits w64 c.args.b.0 = omega (arith, ints, c.requires.b) in
    let right : unsigned_abs c.args.b.0 ≤ 2 ^ 14 = omega (arith, c.requires.b) in
    let product : SFits w64 (c.args.a.0 *ℤ c.args.b.0) =
    fits_signed_mul w64 c.args.a.0 c.args.b.0 (2 ^ 32) (2 ^ 14) c.requires.a right (omega arith) in
    simp to_z-of_z

pub returns-clause-bound : goal.returns-clause-bound
returns-clause-bound c =
    let exact = returns-clause-exact c in
    let most = mul-le-mul_left (unsigned_abs c.args.a.0) c.requires.b in
    rw exact (omega (arith, unsigned_abs-mul c.args.a.0 c.args.b.0, most))
