use Rattle.std.proofs.Common.{◌<◌, ℤ, pos, Bool, false, length, ◌∙◌, arith}
use Rattle.std.proofs.lemmas.Bool.Decides.{nat_tests}
use Rattle.tt_arc.proofs.BoxMoves.{all_boxed, first_boxed, one_boxed}
use Rattle.tt_arc.proofs.bounds.box_of.Goals as goal

nowhere : ℤ × ℤ × Bool
nowhere = (pos 0, pos 0, false)

pub loop-i-init : goal.loop-i-init
unfolding nowhere
loop-i-init c =
    let ps = c.args.points.now in
    let some : 0 < length ps = grind (arith, nat_tests, c.is_empty.ensures, c.if-is_empty.false) in
    record {
      boxed = rw (c.box_at-extents.ensures.exact, c.place_of-first.ensures.exact)
          (first_boxed c.args.by.dx c.args.by.dy ps nowhere some);
      fits = c.box_at-extents.ensures.fits;
    }

pub loop-i-preserved : goal.loop-i-preserved
unfolding nowhere
loop-i-preserved c =
    let ps = c.args.points.now in
    record {
      boxed = rw (c.box_with-extents.ensures.exact, c.place_of-place.ensures.exact)
          (one_boxed c.args.by.dx c.args.by.dy ps nowhere c.loop-i.i c.loop-i.extents c.loop-i-test.true) ∙ c.loop-i.invariant.boxed;
      fits = c.box_with-extents.ensures.fits;
    }

pub returns-clause-exact : goal.returns-clause-exact
returns-clause-exact c =
    all_boxed c.args.by.dx c.args.by.dy c.args.points.now c.loop-i.i c.loop-i.extents _
    (omega (arith, c.loop-i-test.false)) c.loop-i.invariant.boxed
