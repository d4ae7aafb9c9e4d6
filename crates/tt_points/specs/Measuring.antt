-- Apple TrueType Reference Manual, "Instruction Set" (GC, SCFS, MD, UTP): coordinates read and set, distances measured,
-- and a touch removed. Coordinates are in 26.6 pixels.
use Rattle.std.specs.Prelude.{◌≡◌, ℤ, pos, ◌-ℤ◌, true, false, [], ◌∷◌, Option, None, Result, Ok, Err, refl}
use Rattle.tt_core.specs.Outcomes.{◌>>=◌}
use Rattle.tt_core.specs.declared.fault.Why.{Why}
use Rattle.tt_core.specs.declared.fault.Why.TheVariants as why
use Rattle.tt_core.specs.declared.halves.Halves.TheVariants as halves
use Rattle.tt_core.specs.declared.scaling.Scale.{Scale}
use Rattle.tt_state.specs.declared.graphics_state.Zone.TheVariants as zone
use Rattle.tt_state.specs.declared.graphics_state.GraphicsState.{GraphicsState}
use Rattle.tt_state.specs.declared.point.Point.{Point}
use Rattle.tt_state.specs.declared.vector.Vector.TheVariants as vector
use Rattle.tt_state.specs.GraphicsState.{default_state}
use Rattle.tt_state.specs.Vectors.{project}
use Rattle.tt_points_zones.specs.Zones.{ZoneLists, in_pixels}
use Rattle.tt_points_zones.specs.Points.{point_in, with_point, origin}
use Rattle.tt_points_zones.specs.Motions.{vectors_of, cur, org, current_distance, direction, marked, moved}
use Rattle.tt_points_zones.specs.Originals.{distance_by, scale_between}
use Rattle.tt_points_zones.specs.declared.motion.Motion.{Motion}
use Rattle.tt_points.specs.declared.measuring.Position.{Position}
use Rattle.tt_points.specs.declared.measuring.Position.TheVariants as position
use Rattle.tt_points.specs.Moving.{in_units, by_12}
use Rattle.tt_points.specs.Slanted.{rising, slanted, dual_upward, fourth_at, with_fourth, before}
use Rattle.tt_points.specs.Twilight.{settled_in}

-- a point's current place along the projection vector, or its original place along the dual one
abbrev pub coordinate : Position → Motion → Point → ℤ
coordinate position.Current m q = cur m q
coordinate position.Original m q = org m q

unfoldable pub gc : Position → ℤ → ZoneLists → GraphicsState → Result ℤ Why
gc of p z g = point_in g.zp2 p z >>= λ q. Ok (coordinate of (vectors_of g) q)

-- the distance between two points. The current one is along the projection vector. The original one is along the dual
-- vector, by the scale of the original places, if there is one
abbrev pub distance : Position → Option Scale → Motion → Point → Point → ℤ
distance position.Current s m a b = current_distance m a b
distance position.Original s m a b = distance_by s m a b

-- from p1 to p2
unfoldable pub md : Position → ℤ → ℤ → ZoneLists → GraphicsState → Result ℤ Why
md between p2 p1 z g = point_in g.zp1 p1 z >>= λ a. point_in g.zp0 p2 z >>= λ b.
    Ok (distance between (scale_between g.zp1 g.zp0 z) (vectors_of g) a b)

-- moved to a coordinate
unfoldable pub scfs : ℤ → ℤ → ZoneLists → GraphicsState → Result ZoneLists Why
scfs p v z g = point_in g.zp2 p z >>= λ q. direction g >>= λ m. moved m (v -ℤ cur m q) q >>= λ n.
    Ok (with_point g.zp2 p (settled_in g.zp2 n) z)

-- untouched along the freedom vector
unfoldable pub utp : ℤ → ZoneLists → GraphicsState → Result ZoneLists Why
utp p z g = point_in g.zp0 p z >>= λ q. Ok (with_point g.zp0 p (marked g.free false q) z)

-- worked values: a point moved from 0 to 10 along x, and one from 100 to 210
abbrev from_to : ℤ → ℤ → Point
from_to org x = record origin { org_x = org; x = x; touched_x = true; touched_y = true }

abbrev two_points : ZoneLists
two_points = record {
  twilight = from_to (pos 0) (pos 10) ∷ [];
  glyph = from_to (pos 0) (pos 10) ∷ from_to (pos 100) (pos 210) ∷ [];
  contours = [];
  originals = in_pixels halves.Up;
}

its_coordinate : gc position.Current (pos 1) two_points default_state ≡ Ok (pos 210)
unfolding gc project
its_coordinate = refl

its_original_coordinate : gc position.Original (pos 1) two_points default_state ≡ Ok (pos 100)
unfolding gc project
its_original_coordinate = refl

now_apart : md position.Current (pos 1) (pos 0) two_points default_state ≡ Ok (pos 200)
unfolding md project
now_apart = refl

once_apart : md position.Original (pos 1) (pos 0) two_points default_state ≡ Ok (pos 100)
unfolding md project
once_apart = refl

-- 127 font units at 12 of 1024
once_apart_in_units : md position.Original (pos 1) (pos 0) (in_units by_12 (pos 98) false) default_state ≡ Ok (pos 95)
unfolding md project
once_apart_in_units = refl

once_apart_in_pixels : md position.Original (pos 1) (pos 0) (in_units None (pos 98) false) default_state ≡ Ok (pos 96)
unfolding md project
once_apart_in_pixels = refl

-- a twilight point is measured in 26.6
once_apart_from_twilight : md position.Original (pos 1) (pos 0) (in_units by_12 (pos 98) false)
    (record default_state { zp1 = zone.Twilight }) ≡ Ok (pos 96)
unfolding md project
once_apart_from_twilight = refl

no_twilight_point : gc position.Current (pos 1) two_points (record default_state { zp2 = zone.Twilight }) ≡ Err why.PointRange
unfolding gc project
no_twilight_point = refl

settled_there : scfs (pos 0) (pos 30) two_points (record default_state { zp2 = zone.Twilight })
    ≡ Ok (record two_points { twilight = from_to (pos 30) (pos 30) ∷ [] })
unfolding scfs direction project
settled_there = refl

untouched_along_y : utp (pos 0) two_points (record default_state { zp0 = zone.Twilight; free = vector.Y })
    ≡ Ok (record two_points { twilight = record (from_to (pos 0) (pos 10)) { touched_y = false } ∷ [] })
unfolding utp
untouched_along_y = refl

-- along a line that rises by 2 in 1
along_it : gc position.Current (pos 4) before (slanted vector.X) ≡ Ok (pos 103)
unfolding gc project
along_it = refl

by_the_dual_vector : gc position.Original (pos 5) before dual_upward ≡ Ok (pos 100)
unfolding gc project
by_the_dual_vector = refl

apart_along_it : md position.Current (pos 3) (pos 1) before (slanted vector.X) ≡ Ok (pos 140)
unfolding md project
apart_along_it = refl

apart_by_the_dual_vector : md position.Original (pos 5) (pos 4) before dual_upward ≡ Ok (pos 10)
unfolding md project
apart_by_the_dual_vector = refl

moved_along_x_to_a_coordinate : scfs (pos 4) (pos 128) before (slanted vector.X)
    ≡ Ok (with_fourth (fourth_at (pos 106) (pos 90) true false))
unfolding scfs direction project
moved_along_x_to_a_coordinate = refl

untouched_along_x : utp (pos 4) (with_fourth (fourth_at (pos 50) (pos 90) true true)) (slanted vector.X)
    ≡ Ok (with_fourth (fourth_at (pos 50) (pos 90) false true))
unfolding utp
untouched_along_x = refl

untouched_along_both : utp (pos 4) (with_fourth (fourth_at (pos 50) (pos 90) true true)) (slanted rising)
    ≡ Ok (with_fourth (fourth_at (pos 50) (pos 90) false false))
unfolding utp
untouched_along_both = refl
