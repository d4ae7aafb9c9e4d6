use Rattle.std.proofs.Common.{◌<◌, length, get_or, false, pos, SFits, w16, w32, refl, arith, rules}
use Rattle.std.proofs.lemmas.Int.{to_z-of_z}
use Rattle.std.proofs.lemmas.List.{map_more}
use Rattle.std.proofs.lemmas.List.Elements.{All-push}
use Rattle.tt_glyf.specs.declared.raw.RawPoint.{RawPoint}
use Rattle.tt_fit_outline.specs.Outline.{IsPoint}
use Rattle.tt_fit_outline.specs.Scaling.{scaled_by_scale}
use Rattle.tt_fit_outline.proofs.scaling.shifted_points.Goals as goal

abbrev none : RawPoint
none = record { x = pos 0; y = pos 0; on = false }

pub loop-point-preserved : goal.loop-point-preserved
loop-point-preserved c =
    let x : SFits w32 c.scaled.result = search rules in
    let y : SFits w32 c.scaled-in-loop-point.result = search rules in
    let below : c.loop-point.point-index < length c.args.points.now = omega (arith, c.loop-point-test.true) in
    let own_x : SFits w16 (get_or c.args.points.now c.loop-point.point-index none).x = search rules in
    let own_y : SFits w16 (get_or c.args.points.now c.loop-point.point-index none).y = search rules in
    let pushed = simp to_z-of_z at c.push_reserved.ensures.items in
    let x_is = simp to_z-of_z at c.scaled.ensures.exact in
    let y_is = simp to_z-of_z at c.scaled-in-loop-point.ensures.exact in
    let more = map_more (scaled_by_scale c.args.shift.scale) c.args.points.now c.loop-point.point-index none below in
    record {
      so_far = rw (pushed, more, x_is, y_is, c.loop-point.invariant.so_far) refl;
      coordinates = rw pushed (All-push IsPoint _ _ c.loop-point.invariant.coordinates
          (c.scaled.ensures.within, c.scaled-in-loop-point.ensures.within));
      many = omega (arith, c.push_reserved.ensures.len, c.loop-point.invariant.many);
      room = omega (arith, c.push_reserved.ensures.capacity, c.loop-point.invariant.room);
    }
