use Rattle.std.proofs.Common.{SFits, w64, subst}
use Rattle.std.proofs.lemmas.Int.{to_z-of_z}
use Rattle.tt_core.specs.Outcomes.{Gives}
use Rattle.tt_state.specs.Vectors.{Pair}
use Rattle.tt_points_zones.specs.Motions.{put_further}
use Rattle.tt_points_zones.proofs.motion.Motion.shifted_along.Goals as goal

pub returns-clause-exact : goal.returns-clause-exact
returns-clause-exact c =
    let d : SFits w64 c.args.d = c.ranges.d in
    let along = simp to_z-of_z at c.along.ensures in
    subst (λ (by : Pair). Gives (λ q. q) c.put_further.result (put_further c.args.self.now.free by c.args.p))
    along c.put_further.ensures.exact
