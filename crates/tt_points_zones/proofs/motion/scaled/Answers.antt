use Rattle.std.proofs.Common.{◌^◌, ◌≤◌, ◌*ℤ◌, SFits, w64, unsigned_abs, arith, mul-le-mul_left}
use Rattle.std.proofs.lemmas.Int.{ints, to_z-of_z, fits_signed_mul, unsigned_abs-mul}
use Rattle.tt_points_zones.proofs.motion.scaled.Goals as goal

pub returns-clause-exact : goal.returns-clause-exact
returns-clause-exact c =
    let d : SFits w64 c.args.d = omega (arith, ints, c.requires.d) in
    let part : SFits w64 c.args.part = omega (arith, ints, c.requires.part) in
    let most : unsigned_abs c.args.d ≤ 2 ^ 47 = omega (arith, c.requires.d) in
    let product : SFits w64 (c.args.d *ℤ c.args.part) =
    fits_signed_mul w64 c.args.d c.args.part (2 ^ 47) (2 ^ 14) most c.requires.part (omega arith) in
    simp to_z-of_z

pub returns-clause-bound : goal.returns-clause-bound
returns-clause-bound c =
    let exact = returns-clause-exact c in
    let most = mul-le-mul_left (unsigned_abs c.args.d) c.requires.part in
    rw exact (omega (arith, unsigned_abs-mul c.args.d c.args.part, most, c.requires.d))
