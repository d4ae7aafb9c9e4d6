use Rattle.std.proofs.Common.{◌≡◌, ◌∙◌, ◌+◌, ◌<◌, false, length, get_or, drop, length-drop, sym, arith}
use Rattle.std.proofs.lemmas.List.{get_or-drop}
use Rattle.tt_points_zones.specs.Points.{is_touched}
use Rattle.tt_points_iup.proofs.Filled.{blank}
use Rattle.tt_points_iup.proofs.Touches.{none_more}
use Rattle.tt_points_iup.proofs.search.untouched.Goals as goal

pub loop-k-preserved : goal.loop-k-preserved
loop-k-preserved c =
    let axis = c.args.contour.now.along.axis in
    let points = c.args.contour.now.points.now in
    let start = c.args.start in
    let k = c.loop-k.k in
    let here : is_touched axis (get_or points (start + k) blank) ≡ false =
    rw (c.loop-k.invariant.points, c.loop-k.invariant.along) at
    (sym (c.is_touched.ensures.exact blank) ∙ c.if-is_touched.false) in
    let there : is_touched axis (get_or (drop start points) k blank) ≡ false =
    rw (get_or-drop start points k blank) here in
    let within : k < length (drop start points) =
    omega (arith, length-drop start points, c.loop-k-test.true, c.len.ensures, c.requires.start) in
    record {
      none = none_more axis (drop start points) k blank within c.loop-k.invariant.none there;
      asked = omega (arith, c.loop-k.invariant.asked, c.is_touched.ensures.count);
      points = c.is_touched.ensures.unchanged ∙ c.loop-k.invariant.points;
      along = c.is_touched.ensures.along ∙ c.loop-k.invariant.along;
      name = c.is_touched.ensures.same_reference ∙ c.loop-k.invariant.name;
    }
