use Rattle.std.proofs.Common.{SFits, w32, w64, rules, arith}
use Rattle.std.proofs.lemmas.Int.{ints, to_z-of_z}
use Rattle.tt_deltas.proofs.control_values.moved_control_value.Goals as goal

pub returns-clause-exact : goal.returns-clause-exact
returns-clause-exact c =
    let moved : SFits w64 c.sixty_fourths.result = search rules in
    let short : SFits w32 c.clamp.result =
    omega (arith, ints, c.clamp.ensures.lower_bound, c.clamp.ensures.upper_bound) in
    let long : SFits w64 c.clamp.result = search rules in
    let value = simp to_z-of_z at c.clamp.ensures.value in
    simp to_z-of_z (rw c.sixty_fourths.ensures.exact at value)
