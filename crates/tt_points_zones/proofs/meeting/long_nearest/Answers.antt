use Rattle.std.proofs.Common.{pos, ◌+ℤ◌, ◌*ℤ◌, SFits, rules, arith}
use mir.Syntax.{w128}
use Rattle.std.proofs.lemmas.Int.{ints, to_z-of_z}
use Rattle.tt_core.proofs.Quotients.{nearest_within}
use Rattle.tt_points_zones.proofs.meeting.long_nearest.Goals as goal

pub returns-clause-exact : goal.returns-clause-exact
returns-clause-exact c =
    let n : SFits w128 c.args.n = c.ranges.n in
    let d : SFits w128 c.args.d = c.ranges.d in
    let twice : SFits w128 (pos 2 *ℤ c.args.n) = omega (arith, ints) in
    let sum : SFits w128 (pos 2 *ℤ c.args.n +ℤ c.args.d) = omega (arith, ints) in
    let divisor : SFits w128 (pos 2 *ℤ c.args.d) = omega (arith, ints) in
    let result : SFits w128 c.div_euclid.result = search rules in
    simp to_z-of_z (simp to_z-of_z at c.div_euclid.ensures)

pub returns-clause-few : goal.returns-clause-few
returns-clause-few c =
    let exact = returns-clause-exact c in
    rw exact (nearest_within c.args.n c.args.d c.requires.positive)
