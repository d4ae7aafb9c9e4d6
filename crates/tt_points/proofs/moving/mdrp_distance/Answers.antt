use Rattle.std.proofs.Common.{SFits, w64, rules}
use Rattle.std.proofs.lemmas.Int.{to_z-of_z}
use Rattle.tt_points.specs.Moving.{mdrp_distance}
use Rattle.tt_points.proofs.moving.mdrp_distance.Goals as goal

pub returns-clause-exact : goal.returns-clause-exact
unfolding mdrp_distance
returns-clause-exact c =
    let d : SFits w64 c.single_width-d.result.distance = search rules in
    let near : SFits w64 c.rounded_by.result = search rules in
    let fits : SFits w64 c.spaced_by.result = search rules in
    let spaced = simp to_z-of_z at c.spaced_by.ensures.exact in
    simp to_z-of_z (rw (c.rounded_by.ensures.exact, c.single_width-d.ensures) at spaced)
