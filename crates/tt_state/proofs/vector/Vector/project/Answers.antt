use Rattle.std.proofs.Common.{SFits, w32, w64, refl, rules}
use Rattle.std.proofs.lemmas.Int.{to_z-of_z}
use Rattle.tt_state.specs.Vectors.{project}
use Rattle.tt_state.proofs.vector.Vector.project.Goals as goal

pub returns-in-Off-clause-exact : goal.returns-in-Off-clause-exact
unfolding project
returns-in-Off-clause-exact c =
    let x : SFits w32 c.args.x = c.ranges.x in
    let y : SFits w32 c.args.y = c.ranges.y in
    let far : SFits w64 c.sum.result = search rules in
    let fits : SFits w64 c.rounded.result = search rules in
    let across = simp to_z-of_z at c.widened.ensures.exact in
    let upward = simp to_z-of_z at c.widened-in-Off.ensures.exact in
    let sum = rw (across, upward) at c.sum.ensures.exact in
    let reach = rw sum at (simp to_z-of_z at c.rounded.ensures.exact) in
    simp to_z-of_z (rw (c.in-Off.is, reach) refl)
