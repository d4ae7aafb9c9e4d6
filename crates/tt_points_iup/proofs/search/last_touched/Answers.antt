use Rattle.std.proofs.Common.{◌≡◌, ◌∙◌, ◌<◌, true, false, length, get_or, sym, arith}
use Rattle.tt_points_zones.specs.Points.{is_touched}
use Rattle.tt_points_iup.specs.Positions.{point_of}
use Rattle.tt_points_iup.proofs.Filled.{blank}
use Rattle.tt_points_iup.proofs.Touches.{last_here, last_later}
use Rattle.tt_points_iup.proofs.search.last_touched.Goals.{then-is_touched, else-is_touched}
use Rattle.tt_points_iup.proofs.search.last_touched.Goals as goal

pub loop-i-preserved : goal.loop-i-preserved
loop-i-preserved c =
    let axis = c.args.contour.now.along.axis in
    let points = c.args.contour.now.points.now in
    let i = c.loop-i.i in
    let inside : i < length points = omega (arith, c.loop-i-test.true, c.len-i-end.ensures) in
    let exact = rw (c.loop-i.invariant.points, c.loop-i.invariant.along) at (c.is_touched.ensures.exact blank) in
    let asked = c.is_touched.ensures.count in
    let same = c.is_touched.ensures.unchanged ∙ c.loop-i.invariant.points in
    let along_is = c.is_touched.ensures.along ∙ c.loop-i.invariant.along in
    let name = c.is_touched.ensures.same_reference ∙ c.loop-i.invariant.name in
    elim c.if-is_touched.branch [
      | then-is_touched w ↦
          let here : is_touched axis (get_or points i blank) ≡ true = sym exact ∙ w.if-is_touched.true in
          let found : w.at.result.point ≡ get_or points i blank = rw same at (w.at.ensures blank) in
          record {
            same = rw (w.last-is, found)
                (sym (last_here axis (point_of c.loop-i.last) points i blank inside here)
                ∙ c.loop-i.invariant.same);
            asked = omega (arith, asked, c.loop-i.invariant.asked);
            points = same;
            along = along_is;
            name = name;
          }
      | else-is_touched w ↦
          let here : is_touched axis (get_or points i blank) ≡ false = sym exact ∙ w.if-is_touched.false in
          record {
            same = rw w.last-is (sym (last_later axis (point_of c.loop-i.last) points i blank inside here)
                ∙ c.loop-i.invariant.same);
            asked = omega (arith, asked, c.loop-i.invariant.asked);
            points = same;
            along = along_is;
            name = name;
          }
    ]
