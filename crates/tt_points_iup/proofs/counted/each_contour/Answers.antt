use Rattle.std.proofs.Common.{◌∙◌, length-drop, ◌≡◌, ◌+◌, ◌-◌, ◌≤◌, length, take, drop, get_or, arith, rules}
use Rattle.std.proofs.lemmas.List.{drop_more, length-take-le}
use Rattle.std.proofs.lemmas.Result.{err_from_is_err_and}
use Rattle.tt_points_iup.specs.Interpolation as is
use Rattle.tt_points_iup.proofs.Limits.{limited_ok, whole_ok}
use Rattle.tt_points_iup.proofs.Ranges.{inside_of, next_range, after_contour, whole_made, contour_outside, put_sound}
use Rattle.tt_points_iup.proofs.counted.each_contour.Goals as goal

pub slice_bounds-one_contour-end : goal.slice_bounds-one_contour-end
slice_bounds-one_contour-end c =
    let next = next_range c.loop-range.start c.args.contours.now c.loop-range.range-index _ c.loop-range-test.true
    c.loop-range.invariant.place in
    let order = next.order in
    let bound = next.bound in
    search rules

pub returns-in_err-reads-clause-exact : goal.returns-in_err-reads-clause-exact
returns-in_err-reads-clause-exact c =
    let start = c.loop-range.start in
    let ranges = c.args.contours.now in
    let i = c.loop-range.range-index in
    let next = next_range start ranges i (length c.args.points.now) c.loop-range-test.true
    c.loop-range.invariant.place in
    let so_far = rw (drop_more ranges i (0, 0) c.loop-range-test.true) at c.loop-range.invariant.so_far in
    let whole = contour_outside c.args.along (is.contours c.args.along 0 ranges c.args.points.now) c.loop-range.points
    c.args.points.now start (get_or ranges i (0, 0)) (drop (i + 1) ranges) c.in_err-reads.field-0.0 next
    (record { so_far = so_far; rest = c.loop-range.invariant.rest }) c.in_err-reads.ensures.exact in
    let p = err_from_is_err_and c.from_residual.result c.from_residual.ensures.1 in
    rw (p.1, p.2) whole

pub returns-in_err-reads-clause-valid : goal.returns-in_err-reads-clause-valid
returns-in_err-reads-clause-valid c =
    put_sound c.loop-range.start _ c.loop-range.points c.one_contour.new.points c.loop-range.invariant.valid
    c.in_err-reads.ensures.valid

pub loop-range-preserved : goal.loop-range-preserved
loop-range-preserved c =
    let start = c.loop-range.start in
    let now = c.loop-range.points in
    let old = c.args.points.now in
    let part = c.one_contour.new.points in
    let ranges = c.args.contours.now in
    let i = c.loop-range.range-index in
    let range = get_or ranges i (0, 0) in
    let next = next_range start ranges i (length old) c.loop-range-test.true c.loop-range.invariant.place in
    let so_far = rw (drop_more ranges i (0, 0) c.loop-range-test.true) at c.loop-range.invariant.so_far in
    let is_part = whole_ok c.args.along.axis (is.contour c.args.along (take (range.1 - start) (drop start now))) part
    c.in_ok-reads.ensures.exact in
    let order = next.order in
    let bound = next.bound in
    let room : range.1 - start ≤ length (drop start now) =
    omega (arith, bound, c.loop-range.auto.points, length-drop start now) in
    let taken = length-take-le (range.1 - start) (drop start now) room in
    let long : length part ≡ range.1 - start = c.one_contour.auto.points ∙ taken in
    let counted = rw c.loop-range.invariant.rest at c.in_ok-reads.ensures.count in
    let left = rw (drop_more ranges i (0, 0) c.loop-range-test.true, next.from) at c.loop-range.invariant.read in
    let made = after_contour c.args.along (is.contours c.args.along 0 ranges old) now old part start range (drop (i +
    1) ranges)
    next c.loop-range.auto.points (record { so_far = so_far; rest = c.loop-range.invariant.rest }) is_part long in
    record {
      place = next.rest;
      so_far = made.so_far;
      rest = made.rest;
      valid = put_sound start _ now part c.loop-range.invariant.valid c.in_ok-reads.ensures.valid;
      read = omega (arith, counted, left);
      few = omega (arith, c.loop-range.invariant.few, c.in_ok-reads.ensures.few, taken, order);
    }

pub returns-clause-exact : goal.returns-clause-exact
returns-clause-exact c =
    let inside = inside_of c.loop-range.start _ _ c.loop-range.invariant.place in
    let is = whole_made c.args.along _ c.loop-range.points c.args.points.now c.loop-range.start
    c.loop-range.range-index c.args.contours.now
    c.loop-range-test.false inside (record {
      so_far = c.loop-range.invariant.so_far;
      rest =
          c.loop-range.invariant.rest;
    }) in
    rw (← is) (limited_ok c.args.along.axis c.loop-range.points c.loop-range.invariant.valid)
