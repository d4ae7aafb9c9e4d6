-- Apple TrueType Reference Manual, "Instruction Set" (MDAP, MSIRP, MDRP): points moved along the projection vector,
-- without a control value. Coordinates are in 26.6 pixels.
use Rattle.std.specs.Prelude.{◌≡◌, ℤ, pos, negsuc, ◌-ℤ◌, Bool, true, false, if◌then◌else◌, [], ◌∷◌, Option, Some, None, Result, Ok, Err, refl}
use Rattle.tt_core.specs.Outcomes.{◌>>=◌}
use Rattle.tt_core.specs.Scales.{rounded_scale}
use Rattle.tt_core.specs.declared.fault.Why.{Why}
use Rattle.tt_core.specs.declared.fault.Why.TheVariants as why
use Rattle.tt_core.specs.declared.halves.Halves.TheVariants as halves
use Rattle.tt_core.specs.declared.scaling.Scale.{Scale}
use Rattle.tt_state.specs.declared.graphics_state.Zone.TheVariants as zone
use Rattle.tt_state.specs.declared.graphics_state.GraphicsState.{GraphicsState}
use Rattle.tt_state.specs.declared.point.Point.{Point}
use Rattle.tt_state.specs.declared.vector.Vector.TheVariants as vector
use Rattle.tt_state.specs.GraphicsState.{default_state}
use Rattle.tt_state.specs.Rounding.{rounded}
use Rattle.tt_state.specs.Vectors.{project}
use Rattle.tt_points_zones.specs.Zones.{ZoneLists, in_pixels}
use Rattle.tt_points_zones.specs.Points.{point_in, with_point, origin}
use Rattle.tt_points_zones.specs.Motions.{cur, current_distance, direction, moved}
use Rattle.tt_points_zones.specs.Originals.{distance_by, scale_between}
use Rattle.tt_points_zones.specs.declared.motion.Motion.{Motion}
use Rattle.tt_points.specs.declared.distances.Keeping.{Keeping}
use Rattle.tt_points.specs.Distances.{keeping, single_width, rounded_by, spaced_by}
use Rattle.tt_points.specs.Slanted.{rising, across, slanted, fourth_at, with_fourth, with_twilight, before, touched_at}
use Rattle.tt_points.specs.Twilight.{made, placed}
use Rattle.tt_points.specs.declared.twilight.AlongVector.TheVariants as along

-- a point moved so that its distance from another is d
unfoldable pub kept : Motion → ℤ → Point → Point → Result Point Why
kept m d q r = moved m (d -ℤ current_distance m r q) q

-- the reference points after MSIRP, MDRP or MIRP
abbrev pub referred : Bool → ℤ → GraphicsState → GraphicsState
referred rp0 p g = record g { rp0 = if rp0 then p else g.rp0; rp1 = g.rp0; rp2 = p }

-- to the rounded coordinate, or by 0
unfoldable pub mdap_distance : Bool → GraphicsState → ℤ → ℤ
mdap_distance round g at = if round then rounded g.round at -ℤ at else pos 0

unfoldable pub mdap : Bool → ℤ → ZoneLists → GraphicsState → Result (ZoneLists × GraphicsState) Why
mdap round p z g = point_in g.zp0 p z >>= λ q. direction g >>= λ m.
    moved m (mdap_distance round g (cur m q)) q >>= λ n.
    Ok (with_point g.zp0 p n z, record g { rp0 = p; rp1 = p })

-- point p of zone pointer 1 moved to the distance d from reference point 0
unfoldable pub kept_from : Motion → ℤ → ℤ → ZoneLists → GraphicsState → Result ZoneLists Why
kept_from m p d z g = point_in g.zp1 p z >>= λ q. point_in g.zp0 g.rp0 z >>= λ r. kept m d q r >>= λ n.
    Ok (with_point g.zp1 p n z)

-- a twilight point is placed first, at that distance from the original place of reference point 0
unfoldable pub msirp : Bool → ℤ → ℤ → ZoneLists → GraphicsState → Result (ZoneLists × GraphicsState) Why
msirp set_rp0 p d z g = point_in g.zp1 p z >>= λ q. point_in g.zp0 g.rp0 z >>= λ r. direction g >>= λ m.
    made g.zp1 along.Projection m p d r z >>= λ y. kept_from m p d y g >>= λ w. Ok (w, referred set_rp0 p g)

-- the distance that MDRP sets, from an original distance after the single width, and from one before it
abbrev pub mdrp_kept : Keeping → GraphicsState → ℤ → ℤ
mdrp_kept k g d = spaced_by k g d (rounded_by k g d)

unfoldable pub mdrp_distance : Keeping → GraphicsState → ℤ → ℤ
mdrp_distance k g d = mdrp_kept k g (single_width g d)

-- moved to its original distance from reference point 0
unfoldable pub mdrp : Keeping → ℤ → ZoneLists → GraphicsState → Result (ZoneLists × GraphicsState) Why
mdrp k p z g = point_in g.zp1 p z >>= λ q. point_in g.zp0 g.rp0 z >>= λ r. direction g >>= λ m.
    kept m (mdrp_distance k g (distance_by (scale_between g.zp0 g.zp1 z) m r q)) q r >>= λ n.
    Ok (with_point g.zp1 p n z, referred k.set_rp0 p g)

-- worked values: two points at their original places, one at 0 and one at a coordinate along x
abbrev at_x : ℤ → Point
at_x x = record origin { org_x = x; x = x }

abbrev pub zero_and : ℤ → ZoneLists
zero_and x = record {
  twilight = origin ∷ [];
  glyph = at_x (pos 0) ∷ at_x x ∷ [];
  contours = [];
  originals = in_pixels halves.Up;
}

abbrev pub zero_and_touched : ℤ → ℤ → ZoneLists
zero_and_touched org x =
    record (zero_and x) { glyph = at_x (pos 0) ∷ record (at_x x) { org_x = org; touched_x = true } ∷ [] }

ten_to_a_pixel : mdrp (keeping false true true) (pos 1) (zero_and (pos 10)) default_state
    ≡ Ok (zero_and_touched (pos 10) (pos 64), record default_state { rp2 = pos 1 })
unfolding mdrp mdrp_distance kept single_width direction project
ten_to_a_pixel = refl

minus_ten_to_a_pixel : mdrp (keeping false true true) (pos 1) (zero_and (negsuc 9)) default_state
    ≡ Ok (zero_and_touched (negsuc 9) (negsuc 63), record default_state { rp2 = pos 1 })
unfolding mdrp mdrp_distance kept single_width direction project
minus_ten_to_a_pixel = refl

-- two points 127 font units apart before the program, which are 95 at 12 of 1024; the twilight zone has a copy of the
-- first one
abbrev first_in_units : Point
first_in_units = record (at_x (pos 2)) { units_x = pos 3 }

abbrev pub in_units : Option Scale → ℤ → Bool → ZoneLists
in_units scale x touched = record {
  twilight = first_in_units ∷ [];
  glyph = first_in_units ∷ record (at_x (pos 98)) { units_x = pos 130; x = x; touched_x = touched } ∷ [];
  contours = [];
  originals = record { units = scale; halves = halves.AwayFromZero };
}

abbrev pub by_12 : Option Scale
by_12 = Some (rounded_scale 12 1024)

kept_in_units : mdrp (keeping false false false) (pos 1) (in_units by_12 (pos 98) false) default_state
    ≡ Ok (in_units by_12 (pos 97) true, record default_state { rp2 = pos 1 })
unfolding mdrp mdrp_distance kept single_width direction project
kept_in_units = refl

kept_in_pixels : mdrp (keeping false false false) (pos 1) (in_units None (pos 98) false) default_state
    ≡ Ok (in_units None (pos 98) true, record default_state { rp2 = pos 1 })
unfolding mdrp mdrp_distance kept single_width direction project
kept_in_pixels = refl

-- from a twilight point, measured in 26.6
kept_from_twilight : mdrp (keeping false false false) (pos 1) (in_units by_12 (pos 98) false)
    (record default_state { zp0 = zone.Twilight })
    ≡ Ok (in_units by_12 (pos 98) true, record default_state { zp0 = zone.Twilight; rp2 = pos 1 })
unfolding mdrp mdrp_distance kept single_width direction project
kept_from_twilight = refl

rounded_where_it_is : mdap true (pos 1) (zero_and (pos 40)) default_state
    ≡ Ok (zero_and_touched (pos 40) (pos 64), record default_state { rp0 = pos 1; rp1 = pos 1 })
unfolding mdap mdap_distance direction project
rounded_where_it_is = refl

other_vectors : mdap false (pos 1) (zero_and (pos 40)) (record default_state { free = vector.Y })
    ≡ Err why.Perpendicular
unfolding mdap mdap_distance direction project
other_vectors = refl

set_apart : msirp true (pos 1) (negsuc 6) (zero_and (pos 40)) default_state
    ≡ Ok (zero_and_touched (pos 40) (negsuc 6), record default_state { rp0 = pos 1; rp2 = pos 1 })
unfolding msirp made kept_from kept direction project
set_apart = refl

-- along a line that rises by 2 in 1
rounded_along_it : mdap true (pos 4) before (slanted rising)
    ≡ Ok (with_fourth (fourth_at (pos 61) (pos 112) true true), record (slanted rising) { rp0 = pos 4; rp1 = pos 4 })
unfolding mdap mdap_distance direction project
rounded_along_it = refl

rounded_and_moved_along_x : mdap true (pos 4) before (slanted vector.X)
    ≡ Ok (with_fourth (fourth_at (pos 106) (pos 90) true false), record (slanted vector.X) { rp0 = pos 4; rp1 = pos 4 })
unfolding mdap mdap_distance direction project
rounded_and_moved_along_x = refl

rounded_and_moved_along_y : mdap true (pos 4) before (slanted vector.Y)
    ≡ Ok (with_fourth (fourth_at (pos 50) (pos 118) false true), record (slanted vector.Y) { rp0 = pos 4; rp1 = pos 4 })
unfolding mdap mdap_distance direction project
rounded_and_moved_along_y = refl

touched_where_it_is : mdap false (pos 4) before (slanted rising)
    ≡ Ok (with_fourth (fourth_at (pos 50) (pos 90) true true), record (slanted rising) { rp0 = pos 4; rp1 = pos 4 })
unfolding mdap mdap_distance direction project
touched_where_it_is = refl

touched_at_right_angles : mdap false (pos 4) before (slanted across)
    ≡ Ok (with_fourth (fourth_at (pos 50) (pos 90) true true), record (slanted across) { rp0 = pos 4; rp1 = pos 4 })
unfolding mdap mdap_distance direction project
touched_at_right_angles = refl

original_distance_kept : mdrp (keeping false false true) (pos 4) before (slanted rising)
    ≡ Ok (with_fourth (fourth_at (pos 61) (pos 112) true true), record (slanted rising) { rp2 = pos 4 })
unfolding mdrp mdrp_distance kept single_width direction project
original_distance_kept = refl

set_apart_along_it : msirp false (pos 4) (pos 100) before (slanted rising)
    ≡ Ok (with_fourth (fourth_at (pos 49) (pos 87) true true), record (slanted rising) { rp2 = pos 4 })
unfolding msirp made kept_from kept direction project
set_apart_along_it = refl

-- a twilight point at 64 along the projection vector
a_twilight_point_set_apart : msirp false (pos 1) (pos 64) before (record (slanted vector.X) { zp1 = zone.Twilight })
    ≡ Ok (
      with_twilight (touched_at (pos 143) (pos 0) (pos 143) (pos 0) true false),
      record (slanted vector.X) { zp1 = zone.Twilight; rp2 = pos 1 },
    )
unfolding msirp made placed kept_from kept direction project
a_twilight_point_set_apart = refl
