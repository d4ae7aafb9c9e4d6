use Rattle.std.proofs.Common.{◌^◌, ◌≤◌, ◌*ℤ◌, SFits, w64, unsigned_abs, arith}
use Rattle.std.proofs.lemmas.Int.{ints, to_z-of_z, fits_signed_mul, unsigned_abs-mul}
use Rattle.std.proofs.lemmas.Nat.{mul-lt}
use Rattle.tt_points_iup.proofs.place.multiplied.Goals as goal

pub returns-clause-exact : goal.returns-clause-exact
returns-clause-exact c =
    let part : SFits w64 c.args.part.0 = omega (arith, ints, c.requires.part) in
    let multiplier : SFits w64 c.args.multiplier = omega (arith, ints, c.requires.multiplier) in
    let left : unsigned_abs c.args.part.0 ≤ 2 ^ 22 = omega (arith, c.requires.part) in
    let right : unsigned_abs c.args.multiplier ≤ 2 ^ 38 = omega (arith, c.requires.multiplier) in
    let product : SFits w64 (c.args.part.0 *ℤ c.args.multiplier) =
    fits_signed_mul w64 c.args.part.0 c.args.multiplier (2 ^ 22) (2 ^ 38) left right (omega arith) in
    simp to_z-of_z

pub returns-clause-few : goal.returns-clause-few
returns-clause-few c =
    let exact = returns-clause-exact c in
    let small = mul-lt (unsigned_abs c.args.part.0) (unsigned_abs c.args.multiplier) (2 ^ 22) (2 ^ 38) c.requires.part
    c.requires.multiplier in
    rw exact (omega (arith, unsigned_abs-mul c.args.part.0 c.args.multiplier, small))
