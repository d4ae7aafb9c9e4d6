use Rattle.std.proofs.Common.{◌^◌, ◌≤◌, ◌*ℤ◌, SFits, w64, unsigned_abs, arith}
use Rattle.std.proofs.lemmas.Int.{ints, to_z-of_z, fits_signed_mul, unsigned_abs-mul}
use Rattle.std.proofs.lemmas.Nat.{mul-lt}
use Rattle.tt_deltas_inference.proofs.point.product.Goals as goal

pub returns-clause-exact : goal.returns-clause-exact
returns-clause-exact c =
    let part : SFits w64 c.args.part.0 = omega (arith, ints, c.requires.part) in
    let growth : SFits w64 c.args.growth.0 = omega (arith, ints, c.requires.growth) in
    let left : unsigned_abs c.args.part.0 ≤ 2 ^ 16 = omega (arith, c.requires.part) in
    let right : unsigned_abs c.args.growth.0 ≤ 2 ^ 35 = omega (arith, c.requires.growth) in
    let product : SFits w64 (c.args.part.0 *ℤ c.args.growth.0) =
    fits_signed_mul w64 c.args.part.0 c.args.growth.0 (2 ^ 16) (2 ^ 35) left right (omega arith) in
    simp to_z-of_z

pub returns-clause-few : goal.returns-clause-few
returns-clause-few c =
    let exact = returns-clause-exact c in
    let small = mul-lt (unsigned_abs c.args.part.0) (unsigned_abs c.args.growth.0) (2 ^ 16) (2 ^ 35) c.requires.part
    c.requires.growth in
    rw exact (omega (arith, unsigned_abs-mul c.args.part.0 c.args.growth.0, small))
