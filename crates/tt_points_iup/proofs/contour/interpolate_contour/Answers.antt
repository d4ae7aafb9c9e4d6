use Rattle.std.proofs.Common.{◌∙◌, ap, sym}
use Rattle.tt_points_iup.specs.Positions.{point_of}
use Rattle.tt_points_iup.proofs.Contours.{contour_is_swept, untouched_stays, no_last}
use Rattle.tt_points_iup.proofs.Limits.{limited_ok}
use Rattle.tt_points_iup.proofs.contour.interpolate_contour.Goals as goal

pub returns-in_default-clause-exact : goal.returns-in_default-clause-exact
returns-in_default-clause-exact c =
    let along = c.args.contour.now.along in
    let points = c.args.contour.now.points.now in
    let none = sym c.first_touched.ensures.exact ∙ ap point_of c.in_default.is in
    rw (untouched_stays along points none, c.first_touched.ensures.unchanged)
    (limited_ok along.axis points c.args.contour.now.valid)

pub returns-in_default-last_touched-clause-exact : goal.returns-in_default-last_touched-clause-exact
returns-in_default-last_touched-clause-exact c =
    let along = c.args.contour.now.along in
    let points = c.args.contour.now.points.now in
    let searched = c.first_touched.ensures in
    let last = rw (searched.along, searched.unchanged) at c.last_touched.ensures.exact in
    let behind = sym last ∙ ap point_of c.in_default-last_touched.is in
    let none = no_last along.axis points behind in
    let same = c.last_touched.ensures.unchanged ∙ searched.unchanged in
    rw (untouched_stays along points none, same) (limited_ok along.axis points c.args.contour.now.valid)

pub returns-in_default-last_touched-clause-count : goal.returns-in_default-last_touched-clause-count
returns-in_default-last_touched-clause-count c =
    let searched = c.first_touched.ensures in
    let last = rw (searched.along, searched.unchanged) at c.last_touched.ensures.exact in
    let behind = sym last ∙ ap point_of c.in_default-last_touched.is in
    let none = no_last c.args.contour.now.along.axis c.args.contour.now.points.now behind in
    let both = sym none ∙ sym searched.exact ∙ ap point_of c.in-Some.is in
    absurd cc

pub returns-clause-exact : goal.returns-clause-exact
returns-clause-exact c =
    let along = c.args.contour.now.along in
    let points = c.args.contour.now.points.now in
    let searched = c.first_touched.ensures in
    let last = rw (searched.along, searched.unchanged) at c.last_touched.ensures.exact in
    let behind = sym last ∙ ap point_of c.in-Some-last_touched.is in
    let ahead = sym searched.exact ∙ ap point_of c.in-Some.is in
    let same = c.last_touched.ensures.unchanged ∙ searched.unchanged in
    let same_along = c.last_touched.ensures.along ∙ searched.along in
    let swept = rw (same_along, same) at c.sweep.ensures.exact in
    rw (contour_is_swept along c.in-Some-last_touched.last.point c.in-Some.first.point points behind ahead) swept
