use Rattle.std.proofs.Common.{◌≡◌, ◌∙◌, ◌+◌, ◌-◌, ◌≤◌, length, length-drop, drop, get_or, arith, rules}
use Rattle.std.proofs.lemmas.List.{drop_more, length-take-le}
use Rattle.tt_deltas_inference.specs.Inference as is
use Rattle.tt_deltas_inference.proofs.Ranges.{next_end, after_contour, whole_made}
use Rattle.tt_deltas_inference.proofs.Within.{contours_within}
use Rattle.tt_deltas_inference.proofs.contours.infer.Goals as goal

pub slice_bounds-infer_contour-end : goal.slice_bounds-infer_contour-end
slice_bounds-infer_contour-end c =
    let next = next_end c.loop-end.start c.args.ends.now c.loop-end.end-index _ c.loop-end-test.true
    c.loop-end.invariant.place in
    let order = next.order in
    let bound = next.bound in
    let is = c.from-past.ensures in
    search rules

pub loop-end-preserved : goal.loop-end-preserved
loop-end-preserved c =
    let start = c.loop-end.start in
    let now = c.loop-end.points in
    let old = c.args.points.now in
    let ends = c.args.ends.now in
    let i = c.loop-end.end-index in
    let part = c.infer_contour.new.points in
    let end = c.from-past.result in
    let past = end + 1 in
    let next = next_end start ends i (length old) c.loop-end-test.true c.loop-end.invariant.place in
    let order = next.order in
    let bound = next.bound in
    let is_end : past ≡ get_or ends i 0 + 1 = omega (arith, c.from-past.ensures) in
    let room : past - start ≤ length (drop start now) =
    omega (arith, length-drop start now, c.loop-end.auto.points) in
    let long : length part ≡ past - start = c.infer_contour.auto.points ∙ length-take-le (past - start) (drop start now) room in
    let made = c.loop-end.invariant.made in
    record {
      place = rw is_end next.rest;
      made = after_contour (is.contours 0 ends old) now old part start past (get_or ends i 0) (drop (i + 1) ends) is_end
          next c.loop-end.auto.points (record { so_far = rw (drop_more ends i 0 c.loop-end-test.true) at made.so_far; rest = made.rest }) c.infer_contour.ensures long;
    }

pub returns-clause-bound : goal.returns-clause-bound
returns-clause-bound c =
    let old = c.args.points.now in
    let ends = c.args.ends.now in
    let whole = whole_made (is.contours 0 ends old) c.loop-end.points old c.loop-end.start c.loop-end.end-index ends
    c.loop-end-test.false c.loop-end.invariant.made in
    rw whole (contours_within 0 ends old c.requires.points)
