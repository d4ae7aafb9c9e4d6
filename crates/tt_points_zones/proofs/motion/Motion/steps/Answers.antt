use Rattle.std.proofs.Common.{pos, sym, SFits, w64, arith}
use Rattle.std.proofs.lemmas.Int.{ints, to_z-of_z}
use Rattle.tt_state.specs.Vectors.{along}
use Rattle.tt_points_zones.proofs.motion.Motion.steps.Goals as goal

pub returns-in-X-X : goal.returns-in-X-X
unfolding along
returns-in-X-X c =
    let fits : SFits w64 c.args.d = omega (arith, ints, c.requires) in
    let law = c.on_axes.ensures.x (pos 0) (pos 0) c.args.d in
    rw (to_z-of_z w64 c.args.d fits, c.in-X-X.is-0, c.in-X-X.is-1, law.whole) (sym law.moved)

pub returns-in-Y-Y : goal.returns-in-Y-Y
unfolding along
returns-in-Y-Y c =
    let fits : SFits w64 c.args.d = omega (arith, ints, c.requires) in
    let law = c.on_axes.ensures.y (pos 0) (pos 0) c.args.d in
    rw (to_z-of_z w64 c.args.d fits, c.in-Y-Y.is-0, c.in-Y-Y.is-1, law.whole) (sym law.moved)
