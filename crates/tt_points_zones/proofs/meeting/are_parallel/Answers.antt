use Rattle.std.proofs.Common.{SFits, w64, refl, rules}
use Rattle.std.proofs.lemmas.Int.{to_z-of_z}
use Rattle.tt_points_zones.specs.Meeting.{are_parallel}
use Rattle.tt_points_zones.proofs.meeting.are_parallel.Goals as goal

pub returns-clause-exact : goal.returns-clause-exact
unfolding are_parallel
returns-clause-exact c =
    let cross : SFits w64 c.cross.result = search rules in
    let dot : SFits w64 c.dot.result = search rules in
    let sine = simp to_z-of_z at c.unsigned_abs.ensures.value in
    let cosine = simp to_z-of_z at c.unsigned_abs-2.ensures.value in
    rw (sine, cosine, c.cross.ensures.exact, c.dot.ensures.exact) refl
