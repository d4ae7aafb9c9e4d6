use Rattle.std.proofs.Common.{SFits, w32, w64, rules}
use Rattle.std.proofs.lemmas.Int.{to_z-of_z}
use Rattle.tt_points_zones.proofs.motion.step.Goals as goal

pub returns-clause-exact : goal.returns-clause-exact
returns-clause-exact c =
    let d : SFits w64 c.args.d = c.ranges.d in
    let part : SFits w32 c.args.part = c.ranges.part in
    let whole : SFits w32 c.args.whole = c.ranges.whole in
    let wide_part : SFits w64 c.from.result = search rules in
    let wide_whole : SFits w64 c.from-2.result = search rules in
    let far : SFits w64 c.scaled.result = search rules in
    let fits : SFits w64 c.rq.result = search rules in
    let product = rw c.from.ensures at (simp to_z-of_z at c.scaled.ensures.exact) in
    let quotient = rw (product, c.from-2.ensures) at (simp to_z-of_z at c.rq.ensures.exact) in
    simp to_z-of_z (simp to_z-of_z at quotient)
