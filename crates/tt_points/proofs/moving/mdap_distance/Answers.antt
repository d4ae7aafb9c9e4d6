use Rattle.std.proofs.Common.{◌-ℤ◌, SFits, w64, refl, rules, arith}
use Rattle.std.proofs.lemmas.Int.{ints, to_z-of_z}
use Rattle.tt_points.specs.Moving.{mdap_distance}
use Rattle.tt_points.proofs.moving.mdap_distance.Goals as goal

pub returns-then-round-clause-exact : goal.returns-then-round-clause-exact
unfolding mdap_distance
returns-then-round-clause-exact c =
    let at : SFits w64 c.args.at.distance = omega (arith, ints, c.args.at.few) in
    let near : SFits w64 c.round.result = search rules in
    let far : SFits w64 (c.round.result -ℤ c.args.at.distance) = omega (arith, ints, c.args.at.few, c.round.ensures.bound) in
    let rounded = simp to_z-of_z at c.round.ensures.exact in
    simp to_z-of_z (rw (c.if-round.true, rounded) refl)
