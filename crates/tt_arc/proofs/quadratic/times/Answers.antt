use Rattle.std.proofs.Common.{◌≤◌, ◌^◌, ◌*ℤ◌, unsigned_abs, SFits, w64, refl, rules, arith}
use Rattle.std.proofs.lemmas.Int.{fits_signed_mul, to_z-of_z}
use Rattle.tt_arc.proofs.Weights.{part_within}
use Rattle.tt_arc.proofs.quadratic.times.Goals as goal

pub returns-clause-exact : goal.returns-clause-exact
returns-clause-exact c =
    let v : SFits w64 c.args.v = c.ranges.v in
    let n : SFits w64 c.from.result = search rules in
    let few : unsigned_abs c.from.result ≤ 32 = rw c.from.ensures (omega (arith, c.requires.count)) in
    let product : SFits w64 (c.from.result *ℤ c.args.v) = fits_signed_mul w64 c.from.result c.args.v 32 (2 ^ 33) few c.requires.length (omega arith) in
    simp to_z-of_z (rw c.from.ensures refl)

pub returns-clause-few : goal.returns-clause-few
returns-clause-few c =
    rw (returns-clause-exact c) (part_within c.args.count c.args.v (unsigned_abs c.args.v) c.requires.count (omega arith))
