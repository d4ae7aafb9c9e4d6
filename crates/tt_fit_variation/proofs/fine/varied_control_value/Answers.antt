use Rattle.std.proofs.Common.{◌≡◌, ℕ, ◌*◌, ◌≤◌, ℤ, pos, ◌*ℤ◌, unsigned_abs, SFits, w32, w64, rules, arith}
use Rattle.std.proofs.lemmas.Int.{ints, to_z-of_z, unsigned_abs-mul}
use Rattle.std.proofs.lemmas.Nat.{mul-le}
use Rattle.tt_fit_variation.proofs.fine.varied_control_value.Goals as goal

few-pixels : (u n : ℤ) (pixels units : ℕ) → n ≡ u *ℤ pos pixels → unsigned_abs u ≤ 2097152 → pixels ≤ 1200 * units
    → unsigned_abs n ≤ 64 * units * 39321600
few-pixels u n pixels units is small most =
    let all : unsigned_abs u * pixels ≤ 2097152 * (1200 * units) = mul-le (unsigned_abs u) pixels 2097152 (1200 * units) small most in
    rw (is, unsigned_abs-mul u (pos pixels)) (omega (arith, all))

pub returns-clause-bound : goal.returns-clause-bound
returns-clause-bound c =
    let u : SFits w32 c.moved_control_value.result = search rules in
    let a : SFits w64 c.from.result = search rules in
    let n : SFits w64 c.product-n.result = search rules in
    let b : SFits w64 c.from-2.result = search rules in
    let q : SFits w64 c.quotient.result = search rules in
    let u_is = simp to_z-of_z at c.from.ensures in
    let n_is = simp to_z-of_z at c.product-n.ensures.exact in
    let small : unsigned_abs c.from.result ≤ 2097152 = rw u_is (omega (arith, c.moved_control_value.ensures.bound)) in
    let times : SFits w64 (pos 64 *ℤ c.from-2.result) = omega (arith, ints, c.from-2.ensures) in
    let size : unsigned_abs (pos 64 *ℤ c.from-2.result) ≡ 64 * c.args.scale.units = omega (arith, ints, c.from-2.ensures) in
    let within = simp to_z-of_z at c.quotient.ensures.within in
    simp to_z-of_z (within 39321600 (rw size
    (few-pixels c.from.result c.product-n.result c.args.scale.pixels c.args.scale.units n_is small c.requires.valid.most)))
