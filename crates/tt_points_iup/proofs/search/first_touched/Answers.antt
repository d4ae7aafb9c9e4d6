use Rattle.std.proofs.Common.{◌≡◌, ◌∙◌, ◌<◌, true, false, length, get_or, Some, ap, sym, arith}
use Rattle.tt_points_zones.specs.Points.{is_touched}
use Rattle.tt_points_iup.proofs.Filled.{blank}
use Rattle.tt_points_iup.proofs.Touches.{first_here, first_later, asked_here, asked_later}
use Rattle.tt_points_iup.proofs.search.first_touched.Goals as goal

pub returns-then-is_touched-clause-exact : goal.returns-then-is_touched-clause-exact
returns-then-is_touched-clause-exact c =
    let axis = c.args.contour.now.along.axis in
    let points = c.args.contour.now.points.now in
    let i = c.loop-i.i in
    let inside : i < length points = omega (arith, c.loop-i-test.true, c.len-i-end.ensures) in
    let here : is_touched axis (get_or points i blank) ≡ true =
    rw (c.loop-i.invariant.points, c.loop-i.invariant.along) at
    (sym (c.is_touched.ensures.exact blank) ∙ c.if-is_touched.true) in
    let same = c.is_touched.ensures.unchanged ∙ c.loop-i.invariant.points in
    let found : c.at.result.point ≡ get_or points i blank = rw same at (c.at.ensures blank) in
    ap Some found ∙ sym (first_here axis points i blank inside here) ∙ c.loop-i.invariant.same

pub returns-then-is_touched-clause-count : goal.returns-then-is_touched-clause-count
returns-then-is_touched-clause-count c =
    let axis = c.args.contour.now.along.axis in
    let points = c.args.contour.now.points.now in
    let i = c.loop-i.i in
    let inside : i < length points = omega (arith, c.loop-i-test.true, c.len-i-end.ensures) in
    let here : is_touched axis (get_or points i blank) ≡ true =
    rw (c.loop-i.invariant.points, c.loop-i.invariant.along) at
    (sym (c.is_touched.ensures.exact blank) ∙ c.if-is_touched.true) in
    let one = asked_here axis points i blank inside here in
    omega (arith, c.is_touched.ensures.count, c.loop-i.invariant.left, one)

pub loop-i-preserved : goal.loop-i-preserved
loop-i-preserved c =
    let axis = c.args.contour.now.along.axis in
    let points = c.args.contour.now.points.now in
    let i = c.loop-i.i in
    let inside : i < length points = omega (arith, c.loop-i-test.true, c.len-i-end.ensures) in
    let here : is_touched axis (get_or points i blank) ≡ false =
    rw (c.loop-i.invariant.points, c.loop-i.invariant.along) at
    (sym (c.is_touched.ensures.exact blank) ∙ c.if-is_touched.false) in
    let more = asked_later axis points i blank inside here in
    record {
      same = sym (first_later axis points i blank inside here) ∙ c.loop-i.invariant.same;
      left = omega (arith, c.is_touched.ensures.count, c.loop-i.invariant.left, more);
      asked = omega (arith, c.is_touched.ensures.count, c.loop-i.invariant.asked);
      points = c.is_touched.ensures.unchanged ∙ c.loop-i.invariant.points;
      along = c.is_touched.ensures.along ∙ c.loop-i.invariant.along;
      name = c.is_touched.ensures.same_reference ∙ c.loop-i.invariant.name;
    }
