use Rattle.std.proofs.Common.{pos, ◌+ℤ◌, ◌*ℤ◌, SFits, w64, rules, arith}
use Rattle.std.proofs.lemmas.Int.{ints, to_z-of_z}
use Rattle.tt_core.proofs.number.nearest.Goals as goal
use Rattle.tt_core.proofs.Quotients.{nearest_at_most}

pub returns-clause-exact : goal.returns-clause-exact
returns-clause-exact c =
    let n : SFits w64 c.args.n = c.ranges.n in
    let d : SFits w64 c.args.d = c.ranges.d in
    let twice : SFits w64 (pos 2 *ℤ c.args.n) = omega (arith, ints) in
    let sum : SFits w64 (pos 2 *ℤ c.args.n +ℤ c.args.d) = omega (arith, ints) in
    let divisor : SFits w64 (pos 2 *ℤ c.args.d) = omega (arith, ints) in
    let result : SFits w64 c.div_euclid.result = search rules in
    simp to_z-of_z (simp to_z-of_z at c.div_euclid.ensures)

pub returns-clause-within : goal.returns-clause-within
returns-clause-within c = λ most few.
    let exact = returns-clause-exact c in
    rw exact (nearest_at_most c.args.n c.args.d most c.requires.positive few)
