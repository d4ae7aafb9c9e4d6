use Rattle.std.proofs.Common.{◌≡◌, ◌∙◌, ◌≤◌, length, take, drop, length-drop, arith}
use Rattle.std.proofs.lemmas.List.{append-nil, take_all, drop_all}
use Rattle.std.proofs.lemmas.Result.{err_from_is_err_and}
use Rattle.tt_points_iup.specs.Sweeps.{swept}
use Rattle.tt_points_iup.proofs.Limits.{limited_behind, limited_ok}
use Rattle.tt_points_iup.proofs.Swept.{front_kept, after_run}
use Rattle.tt_points_iup.proofs.contour.sweep.Goals as goal

pub returns-in_err-run-clause-exact : goal.returns-in_err-run-clause-exact
returns-in_err-run-clause-exact c =
    let along = c.args.contour.now.along in
    let start = c.loop-start.start in
    let now = c.loop-start.contour.points.now in
    let left = swept along c.loop-start.before.point c.args.first.point (drop start c.args.contour.now.points.now) in
    let bad = rw (c.loop-start.invariant.along, c.loop-start.invariant.rest) at c.in_err-run.ensures.fault in
    let all = limited_behind along.axis (take start now) left c.in_err-run.field-0.0 bad in
    let whole = rw c.loop-start.invariant.so_far at all in
    let p = err_from_is_err_and c.from_residual.result c.from_residual.ensures.1 in
    rw (p.1, p.2) whole

pub loop-start-preserved : goal.loop-start-preserved
loop-start-preserved c =
    let along = c.args.contour.now.along in
    let start = c.loop-start.start in
    let now = c.loop-start.contour.points.now in
    let old = c.args.contour.now.points.now in
    let new = c.next_run.new.contour.points.now in
    let inside : start ≤ length now = omega (arith, c.loop-start.invariant.place, c.loop-start.invariant.many) in
    let run = rw c.loop-start.invariant.along at c.in_ok-run.ensures.run in
    let many : length new ≡ length now =
    omega (arith, run.many, length-drop start now, length-drop start new, c.loop-start-test.true, c.len.ensures) in
    let written = front_kept now new start c.in_ok-run.ensures.front in
    let far = after_run along c.loop-start.before.point c.args.first.point
    (swept along c.args.last.point c.args.first.point old) now old (drop start new) start _ _ inside (record {
      so_far = c.loop-start.invariant.so_far;
      rest = c.loop-start.invariant.rest;
    }) run in
    record {
      place = omega (arith, run.bound, length-drop start now, c.loop-start.invariant.many, inside);
      so_far = rw written at far.so_far;
      rest = rw written at far.rest;
      many = many ∙ c.loop-start.invariant.many;
      reads = omega (arith, c.loop-start.invariant.reads, c.in_ok-run.ensures.count);
      along = c.in_ok-run.ensures.along ∙ c.loop-start.invariant.along;
      name = c.in_ok-run.ensures.same_reference ∙ c.loop-start.invariant.name;
    }

pub returns-clause-exact : goal.returns-clause-exact
returns-clause-exact c =
    let along = c.args.contour.now.along in
    let start = c.loop-start.start in
    let now = c.loop-start.contour.points.now in
    let old = c.args.contour.now.points.now in
    let all = take_all start now (omega (arith, c.loop-start-test.false, c.len.ensures)) in
    let none = drop_all start old (omega (arith, c.loop-start-test.false, c.len.ensures, c.loop-start.invariant.many)) in
    let is : now ≡ swept along c.args.last.point c.args.first.point old =
    rw (all, none, append-nil now) at c.loop-start.invariant.so_far in
    rw (← is) (limited_ok along.axis now c.loop-start.contour.valid)
