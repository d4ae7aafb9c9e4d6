use Rattle.std.proofs.Common.{◌≡◌, pos, SFits, w64, arith}
use Rattle.std.specs.Int.{int_div_euclid}
use Rattle.std.proofs.lemmas.Int.{ints, to_z-of_z}
use Rattle.tt_rows.proofs.Halves.{half_within}
use Rattle.tt_rows.proofs.places.half.Goals as goal

pub returns-clause-bound : goal.returns-clause-bound
returns-clause-bound c =
    let n : SFits w64 c.args.n = c.ranges.n in
    let quotient : c.div_euclid.result ≡ int_div_euclid c.args.n (pos 2) = simp to_z-of_z at c.div_euclid.ensures in
    let within = rw (← quotient) at (half_within c.args.n) in
    omega (arith, ints, within, c.requires)
