use Rattle.std.proofs.Common.{◌≡◌, ℕ, ◌^◌, ◌≤◌, ◌*◌, ◌*ℤ◌, SFits, w64, w32, unsigned_abs, refl, rules, arith}
use Rattle.std.proofs.lemmas.Int.{ints, to_z-of_z, fits_signed_mul, unsigned_abs-mul}
use Rattle.std.proofs.lemmas.Nat.{mul-le}
use Rattle.tt_core.proofs.scaling.Scale.scaled.Goals as goal

pub quotient-requires-clause-numerator : goal.quotient-requires-clause-numerator
quotient-requires-clause-numerator c =
    let v : SFits w32 c.args.v = c.ranges.v in
    let distance : SFits w64 c.from.result = search rules in
    let size : SFits w64 c.from-2.result = search rules in
    let is_v = simp to_z-of_z at c.from.ensures in
    let low : unsigned_abs c.from.result ≤ 2 ^ 31 = omega (arith, ints) in
    let few : unsigned_abs c.from-2.result ≤ 2 ^ 27 = omega (arith, ints, c.requires.few) in
    let product : SFits w64 (c.from.result *ℤ c.from-2.result) = fits_signed_mul w64 c.from.result c.from-2.result
    (2 ^ 31) (2 ^ 27) low few (omega arith) in
    let within : unsigned_abs c.from.result * unsigned_abs c.from-2.result ≤ 2 ^ 31 * 2 ^ 27 =
    mul-le (unsigned_abs c.from.result) (unsigned_abs c.from-2.result) (2 ^ 31) (2 ^ 27) low few in
    simp to_z-of_z (rw (unsigned_abs-mul c.from.result c.from-2.result) (omega (arith, within)))

pub returns-clause-exact : goal.returns-clause-exact
returns-clause-exact c =
    let v : SFits w32 c.args.v = c.ranges.v in
    let distance : SFits w64 c.from.result = search rules in
    let size : SFits w64 c.from-2.result = search rules in
    let em : SFits w64 c.from-3.result = search rules in
    let is_v = simp to_z-of_z at c.from.ensures in
    let low : unsigned_abs c.from.result ≤ 2 ^ 31 = omega (arith, ints) in
    let few : unsigned_abs c.from-2.result ≤ 2 ^ 27 = omega (arith, ints, c.requires.few) in
    let product : SFits w64 (c.from.result *ℤ c.from-2.result) = fits_signed_mul w64 c.from.result c.from-2.result
    (2 ^ 31) (2 ^ 27) low few (omega arith) in
    let result : SFits w64 c.quotient.result = search rules in
    let exact = simp to_z-of_z at c.quotient.ensures.exact in
    simp to_z-of_z (rw (exact, is_v, c.from-2.ensures, c.from-3.ensures) refl)

as_many : (v pixels units : ℕ) → pixels ≤ 1200 * units → v * pixels ≤ units * (1200 * v)
as_many v pixels units most =
    let all : v * pixels ≤ v * (1200 * units) = mul-le v pixels v (1200 * units) (omega arith) most in
    omega (arith, all)

pub returns-clause-bound : goal.returns-clause-bound
returns-clause-bound c =
    let v : SFits w32 c.args.v = c.ranges.v in
    let distance : SFits w64 c.from.result = search rules in
    let size : SFits w64 c.from-2.result = search rules in
    let em : SFits w64 c.from-3.result = search rules in
    let is_v : c.from.result ≡ c.args.v = simp to_z-of_z at c.from.ensures in
    let low : unsigned_abs c.from.result ≤ 2 ^ 31 = omega (arith, ints) in
    let few : unsigned_abs c.from-2.result ≤ 2 ^ 27 = omega (arith, ints, c.requires.few) in
    let product : SFits w64 (c.from.result *ℤ c.from-2.result) = fits_signed_mul w64 c.from.result c.from-2.result
    (2 ^ 31) (2 ^ 27) low few (omega arith) in
    let result : SFits w64 c.quotient.result = search rules in
    let is_pixels : unsigned_abs c.from-2.result ≡ c.args.self.pixels = omega (arith, ints, c.from-2.ensures) in
    let is_units : unsigned_abs c.from-3.result ≡ c.args.self.units = omega (arith, ints, c.from-3.ensures) in
    let all : unsigned_abs (c.from.result *ℤ c.from-2.result) ≤ unsigned_abs c.from-3.result * (1200 * unsigned_abs c.args.v) =
    rw (unsigned_abs-mul c.from.result c.from-2.result, is_v, is_pixels, is_units)
    (as_many (unsigned_abs c.args.v) c.args.self.pixels c.args.self.units c.requires.most) in
    let within = simp to_z-of_z at c.quotient.ensures.within in
    simp to_z-of_z (within (1200 * unsigned_abs c.args.v) all)
