use Rattle.std.proofs.Common.{ℤ, pos, Bool, false}
use Rattle.tt_arc.specs.Chords.{moved}
use Rattle.tt_arc.proofs.Walks.{point_is}
use Rattle.tt_arc.proofs.counting.corner_at.Goals as goal

nowhere : ℤ × ℤ × Bool
nowhere = (pos 0, pos 0, false)

pub invariant_of-result : goal.invariant_of-result
unfolding nowhere
invariant_of-result c = record {
  before_fits = rw c.moved-before.ensures (c.requires.near c.number_before.result nowhere c.number_before.ensures.within);
  point_fits = rw c.moved-point.ensures (c.requires.near c.args.i nowhere c.requires.within);
  after_fits = rw c.moved-after.ensures (c.requires.near c.number_after.result nowhere c.number_after.ensures.within);
}

pub returns-clause-before : goal.returns-clause-before
unfolding nowhere
returns-clause-before c =
    let f = moved c.args.by.dx c.args.by.dy in
    rw (c.moved-before.ensures, ← c.number_before.ensures.exact)
    (point_is f c.args.points.now c.number_before.result nowhere c.number_before.ensures.within)

pub returns-clause-point : goal.returns-clause-point
unfolding nowhere
returns-clause-point c =
    let f = moved c.args.by.dx c.args.by.dy in
    rw c.moved-point.ensures (point_is f c.args.points.now c.args.i nowhere c.requires.within)

pub returns-clause-after : goal.returns-clause-after
unfolding nowhere
returns-clause-after c =
    let f = moved c.args.by.dx c.args.by.dy in
    rw (c.moved-after.ensures, ← c.number_after.ensures.exact)
    (point_is f c.args.points.now c.number_after.result nowhere c.number_after.ensures.within)
