use Rattle.std.proofs.Common.{◌^◌, ◌≤◌, ◌*ℤ◌, SFits, w64, unsigned_abs, arith}
use Rattle.std.proofs.lemmas.Int.{to_z-of_z, fits_signed_mul, unsigned_abs-mul}
use Rattle.std.proofs.lemmas.Nat.{mul-lt}
use Rattle.tt_scan_edges.proofs.quotient.product.Goals as goal

pub returns-clause-exact : goal.returns-clause-exact
returns-clause-exact c =
    let a : SFits w64 c.args.a = c.ranges.a in
    let b : SFits w64 c.args.b = c.ranges.b in
    let left : unsigned_abs c.args.a ≤ 2 ^ 31 = omega (arith, c.requires.left) in
    let right : unsigned_abs c.args.b ≤ 2 ^ 31 = omega (arith, c.requires.right) in
    let product : SFits w64 (c.args.a *ℤ c.args.b) = fits_signed_mul w64 c.args.a c.args.b (2 ^ 31) (2 ^ 31) left right (omega arith) in
    simp to_z-of_z

pub returns-clause-bound : goal.returns-clause-bound
returns-clause-bound c =
    let exact = returns-clause-exact c in
    rw exact (omega (arith, unsigned_abs-mul c.args.a c.args.b, mul-lt (unsigned_abs c.args.a) (unsigned_abs c.args.b) (2 ^ 31) (2 ^ 31) c.requires.left c.requires.right))
