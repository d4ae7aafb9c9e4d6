use Rattle.std.proofs.Common.{SFits, w64, refl}
use Rattle.std.proofs.lemmas.Int.{to_z-of_z}
use Rattle.tt_points_zones.proofs.motion.Motion.moved.Goals as goal

pub returns-clause-exact : goal.returns-clause-exact
returns-clause-exact c =
    let d : SFits w64 c.args.d = c.ranges.d in
    rw (simp to_z-of_z at c.in_ok-shifted.ensures.exact, c.marked.ensures.exact) refl
