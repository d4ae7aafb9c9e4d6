-- No part of the standard: finding a point, moving it and reading the vectors never fail with too few values. A move of
-- a point that exists is not refused for a missing thing.
use Rattle.std.proofs.Common.{◌≡◌, ℤ, pos, int_lt, unsigned_abs, slice_get, ◌+ℤ◌, Bool, true, false, ◌||◌, if◌then◌else◌, Option, Some, None, Result, Ok, Err, refl}
use Rattle.std.specs.Option.{ok_or}
use Rattle.std.specs.Ordering.{int_eq}
use Rattle.tt_core.specs.declared.fault.Why.{Why}
use Rattle.tt_core.specs.declared.fault.Why.TheVariants as why
use Rattle.tt_state.specs.Axes.{pair_of}
use Rattle.tt_state.specs.Loosening.{IsTotal, Enough, total_after, is_short}
use Rattle.tt_state.specs.Tolerance.{is_missing}
use Rattle.tt_state.specs.Vectors.{Pair}
use Rattle.tt_state.specs.declared.graphics_state.GraphicsState.{GraphicsState}
use Rattle.tt_state.specs.declared.graphics_state.Zone.{Zone}
use Rattle.tt_state.specs.declared.point.Point.{Point}
use Rattle.tt_state.specs.declared.vector.Vector.{Vector}
use Rattle.tt_points_zones.specs.Motions.{direction, is_same, vectors_of, pushed_to, put_further, pushed, steps, moved}
use Rattle.tt_points_zones.specs.Points.{is_coordinate, point_in, points_in}
use Rattle.tt_points_zones.specs.Zones.{ZoneLists}
use Rattle.tt_points_zones.specs.declared.motion.Motion.{Motion}

-- one of two results
pub either : {A : Type 0} (b : Bool) (r other : Result A Why) → IsTotal r → IsTotal other
    → IsTotal (if b then r else other)
either true r other total also = total
either false r other total also = also

pub enough_of_either : {A : Type 0} (b : Bool) (r other : Result A Why) → Enough r → Enough other
    → Enough (if b then r else other)
enough_of_either true r other enough also = enough
enough_of_either false r other enough also = also

-- a total result is not short of values
not_short : (missing short : Bool) → (missing || short) ≡ false → short ≡ false
not_short false short never = never
not_short true short never = absurd cc

pub enough_of : {A : Type 0} (r : Result A Why) → IsTotal r → Enough r
enough_of (Ok a) total = record {}
enough_of (Err e) total = not_short (is_missing e) (is_short e) total

-- a point is found, or missing
pub found : {A : Type 0} (o : Option A) (e : Why) → is_short e ≡ false → Enough (ok_or o e)
found (Some a) e enough = record {}
found None e enough = enough

pub point_enough : (zone : Zone) (n : ℤ) (z : ZoneLists) → Enough (point_in zone n z)
point_enough zone n z =
    enough_of_either (int_lt n (pos 0)) (Err why.PointRange)
    (ok_or (slice_get (points_in zone z) (unsigned_abs n)) why.PointRange) refl
    (found (slice_get (points_in zone z) (unsigned_abs n)) why.PointRange refl)

-- a point is moved, unless past the limit
put_total : (part by at : ℤ) → IsTotal (pushed_to part by at)
put_total part by at =
    either (int_eq part (pos 0)) (Ok at)
    (if is_coordinate (at +ℤ by) then Ok (at +ℤ by) else Err why.ValueRange) (record {})
    (either (is_coordinate (at +ℤ by)) (Ok (at +ℤ by)) (Err why.ValueRange) (record {}) refl)

pub further_total : (free : Vector) (by : Pair) (p : Point) → IsTotal (put_further free by p)
further_total free by p =
    total_after (pushed_to (pair_of free).x by.x p.x) _ (put_total (pair_of free).x by.x p.x) (λ x.
    total_after (pushed_to (pair_of free).y by.y p.y) _ (put_total (pair_of free).y by.y p.y) (λ y. record {}))

pub pushed_total : (free : Vector) (by : Pair) (p : Point) → IsTotal (pushed free by p)
pushed_total free by p = total_after (put_further free by p) _ (further_total free by p) (λ q. record {})

pub moved_total : (m : Motion) (d : ℤ) (p : Point) → IsTotal (moved m d p)
moved_total m d p = pushed_total m.free (steps m d) p

pub direction_total : (g : GraphicsState) → IsTotal (direction g)
unfolding direction
direction_total g =
    either (g.whole || is_same g.proj g.free) (Ok (vectors_of g)) (Err why.Perpendicular) (record {}) refl
