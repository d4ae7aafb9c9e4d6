use Rattle.std.proofs.Common.{◌≡◌, ℕ, ◌*◌, ◌^◌, ◌≤◌, ◌*ℤ◌, SFits, w64, unsigned_abs, arith, rules}
use Rattle.std.proofs.lemmas.Int.{to_z-of_z, ints, fits_signed_mul, unsigned_abs-mul}
use Rattle.tt_fit_outline.proofs.size.product.Goals as goal

times_less : (a b m : ℕ) → a ≤ m → a * b ≤ m * b
times_less a b m h = grind arith

pub returns-clause-bound : goal.returns-clause-bound
returns-clause-bound c =
    let a : SFits w64 c.from.result = search rules in
    let b : SFits w64 c.from-2.result = search rules in
    let left : unsigned_abs c.from.result ≤ 32768 = omega (arith, ints, c.from.ensures, c.ranges.v) in
    let right : unsigned_abs c.from-2.result ≤ 2 ^ 27 = omega (arith, ints, c.from-2.ensures, c.requires) in
    let fits : SFits w64 (c.from.result *ℤ c.from-2.result) = fits_signed_mul w64 c.from.result c.from-2.result
    32768 (2 ^ 27) left right (omega arith) in
    let same : unsigned_abs c.from-2.result ≡ c.args.pixels = omega (arith, ints, c.from-2.ensures) in
    simp to_z-of_z (omega (
      arith,
      unsigned_abs-mul c.from.result c.from-2.result,
      same,
      times_less
          (unsigned_abs c.from.result) (unsigned_abs c.from-2.result) 32768 left,
    ))
