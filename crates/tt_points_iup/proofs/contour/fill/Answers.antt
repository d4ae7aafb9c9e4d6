use Rattle.std.proofs.Common.{◌≡◌, ◌∙◌, ◌+◌, ◌<◌, ◌≤◌, length, length-set, get_or, slice_set, arith}
use Rattle.std.proofs.lemmas.Result.{err_from_is_err_and}
use Rattle.tt_points_zones.specs.Points.{put as put_to}
use Rattle.tt_points_iup.specs.Interpolation as is
use Rattle.tt_points_iup.proofs.Filled.{blank, filled_at, next_outside, all_made}
use Rattle.tt_points_iup.proofs.Limits.{point_ok}
use Rattle.tt_points_iup.proofs.contour.fill.Goals as goal

pub returns-in_err-to-clause-exact : goal.returns-in_err-to-clause-exact
returns-in_err-to-clause-exact c =
    let along = c.args.contour.now.along in
    let f = is.interpolated along c.args.around.before.point c.args.around.after.point in
    let now = c.loop-k.contour.points.now in
    let old = c.args.contour.now.points.now in
    let inside : c.args.start + c.args.len ≤ length now = omega (arith, c.requires.range, c.loop-k.invariant.many) in
    let between = c.of-between.ensures in
    let bad = rw (c.at.ensures blank, between.along, between.exact, c.along.ensures) at c.in_err-to.ensures.exact in
    let all = next_outside along.axis f now old c.args.start c.loop-k.k c.args.len _ c.loop-k-test.true inside
    c.loop-k.invariant.many c.loop-k.invariant.filled bad in
    let p = err_from_is_err_and c.from_residual.result c.from_residual.ensures.1 in
    rw (p.1, p.2) all

pub loop-k-preserved : goal.loop-k-preserved
loop-k-preserved c =
    let along = c.args.contour.now.along in
    let f = is.interpolated along c.args.around.before.point c.args.around.after.point in
    let now = c.loop-k.contour.points.now in
    let old = c.args.contour.now.points.now in
    let at = c.args.start + c.loop-k.k in
    let q = put_to along.axis c.in_ok-to.to.0 (get_or now at blank) in
    let here : at < length now = omega (arith, c.loop-k-test.true, c.requires.range, c.loop-k.invariant.many) in
    let there : at < length old = omega (arith, c.loop-k-test.true, c.requires.range) in
    let between = c.of-between.ensures in
    let made = point_ok along.axis (f (get_or now at blank)) q (rw (
      c.at.ensures blank,
      between.along,
      between.exact,
      c.along.ensures,
    ) at c.in_ok-to.ensures.exact) in
    let set : c.put.new.self.points.now ≡ slice_set now at q = rw c.loop-k.invariant.along at (c.put.ensures.exact blank) in
    record {
      filled = rw set (filled_at f now old c.args.start c.loop-k.k q here there c.loop-k.invariant.filled made);
      many = rw set (length-set now at q ∙ c.loop-k.invariant.many);
      reads = c.put.ensures.count ∙ c.loop-k.invariant.reads;
      along = c.put.ensures.along ∙ c.loop-k.invariant.along;
      name = c.put.ensures.same_reference ∙ c.loop-k.invariant.name;
    }

pub returns-clause-exact : goal.returns-clause-exact
returns-clause-exact c =
    let along = c.args.contour.now.along in
    let f = is.interpolated along c.args.around.before.point c.args.around.after.point in
    let all : c.loop-k.k ≡ c.args.len = omega (arith, c.loop-k-test.false, c.loop-k.auto.k-end) in
    all_made along.axis f c.loop-k.contour.points.now c.args.contour.now.points.now c.args.start c.args.len
    (rw all at c.loop-k.invariant.filled) c.loop-k.contour.valid
