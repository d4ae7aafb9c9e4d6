use Rattle.std.proofs.Common.{◌≡◌, pos, neg_ℤ, ◌-ℤ◌, SFits, w32, arith}
use Rattle.std.specs.Int.{int_div_euclid}
use Rattle.std.proofs.lemmas.Int.{ints, to_z-of_z}
use Rattle.tt_line.proofs.Quotients.{ceiling_within}
use Rattle.tt_line.proofs.pixels.ceiling.Goals as goal

pub returns-clause-bound : goal.returns-clause-bound
returns-clause-bound c =
    let n : SFits w32 c.args.n = c.ranges.n in
    let d : SFits w32 c.args.d = c.ranges.d in
    let fits : SFits w32 (pos 0 -ℤ c.args.n) = omega (arith, ints) in
    let turned : pos 0 -ℤ c.args.n ≡ neg_ℤ c.args.n = omega (arith, ints) in
    let quotient : c.div_euclid.result ≡ int_div_euclid (neg_ℤ c.args.n) c.args.d = rw turned at (simp to_z-of_z at c.div_euclid.ensures) in
    let within = rw (← quotient) at (ceiling_within c.args.n c.args.d c.requires.numerator c.requires.denominator) in
    omega (arith, ints)
