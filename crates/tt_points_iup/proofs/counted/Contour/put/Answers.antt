use Rattle.std.proofs.Common.{◌≡◌, ◌≤◌, ℤ, to_z, of_z, w32, w64, unsigned_abs, refl, rules, SFits}
use Rattle.std.proofs.lemmas.Int.{to_z-of_z}
use Rattle.std.proofs.lemmas.List.Elements.{All-set}
use Rattle.tt_core.specs.Limits.{coordinate_limit}
use Rattle.tt_state.specs.declared.point.Point.{Point}
use Rattle.tt_points_zones.specs.Zones.{IsPoint}
use Rattle.tt_points_iup.proofs.counted.Contour.put.Goals as goal

-- a point keeps to the limits at another coordinate within these, on either axis
moved_x : (p : Point) (v : ℤ) → IsPoint p → unsigned_abs v ≤ coordinate_limit → IsPoint (record p { x = v })
moved_x p v is limit = record {
  units_x = is.units_x;
  units_y = is.units_y;
  org_x = is.org_x;
  org_y = is.org_y;
  x = limit;
  y = is.y;
}

moved_y : (p : Point) (v : ℤ) → IsPoint p → unsigned_abs v ≤ coordinate_limit → IsPoint (record p { y = v })
moved_y p v is limit = record {
  units_x = is.units_x;
  units_y = is.units_y;
  org_x = is.org_x;
  org_y = is.org_y;
  x = is.x;
  y = limit;
}

pub invariant_of-self : goal.invariant_of-self
invariant_of-self c =
    let points = c.args.self.now.valid in
    let wide : SFits w64 c.args.to.0 = search rules in
    let narrow : SFits w32 c.args.to.0 = search rules in
    let same : to_z w32 (of_z w32 (to_z w64 (of_z w64 c.args.to.0))) ≡ c.args.to.0 = simp to_z-of_z refl in
    rw same (record {
      valid = All-set IsPoint c.args.self.now.points.now c.args.i _
          (moved_x _ c.args.to.0 (points c.args.i _ c.requires.there) c.requires.limit) points;
    })

pub invariant_of-self-in-Y : goal.invariant_of-self-in-Y
invariant_of-self-in-Y c =
    let points = c.args.self.now.valid in
    let wide : SFits w64 c.args.to.0 = search rules in
    let narrow : SFits w32 c.args.to.0 = search rules in
    let same : to_z w32 (of_z w32 (to_z w64 (of_z w64 c.args.to.0))) ≡ c.args.to.0 = simp to_z-of_z refl in
    rw same (record {
      valid = All-set IsPoint c.args.self.now.points.now c.args.i _
          (moved_y _ c.args.to.0 (points c.args.i _ c.requires.there) c.requires.limit) points;
    })
