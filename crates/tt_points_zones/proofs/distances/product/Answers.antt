use Rattle.std.proofs.Common.{◌^◌, ◌≤◌, ◌*ℤ◌, SFits, w64, unsigned_abs, arith}
use Rattle.std.proofs.lemmas.Int.{ints, to_z-of_z, fits_signed_mul, unsigned_abs-mul}
use Rattle.std.proofs.lemmas.Nat.{mul-lt}
use Rattle.tt_points_zones.proofs.distances.product.Goals as goal

pub returns-clause-exact : goal.returns-clause-exact
returns-clause-exact c =
    let a : SFits w64 c.args.a.0 = omega (arith, ints, c.requires.a) in
    let b : SFits w64 c.args.b.0 = omega (arith, ints, c.requires.b) in
    let left : unsigned_abs c.args.a.0 ≤ 2 ^ 23 = omega (arith, c.requires.a) in
    let right : unsigned_abs c.args.b.0 ≤ 2 ^ 23 = omega (arith, c.requires.b) in
    let product : SFits w64 (c.args.a.0 *ℤ c.args.b.0) =
    fits_signed_mul w64 c.args.a.0 c.args.b.0 (2 ^ 23) (2 ^ 23) left right (omega arith) in
    simp to_z-of_z

pub returns-clause-few : goal.returns-clause-few
returns-clause-few c =
    let exact = returns-clause-exact c in
    let small = mul-lt (unsigned_abs c.args.a.0) (unsigned_abs c.args.b.0) (2 ^ 23) (2 ^ 23) c.requires.a
    c.requires.b in
    rw exact (omega (arith, unsigned_abs-mul c.args.a.0 c.args.b.0, small))
