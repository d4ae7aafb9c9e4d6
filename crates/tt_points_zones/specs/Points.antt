-- Apple TrueType Reference Manual, "Instructing TrueType Glyphs" (zones, touched points) and "Graphics State"
-- (vectors): a point by its number in a zone, its coordinates on an axis, and its moves. Coordinates are in 26.6
-- pixels.
use Rattle.std.specs.Prelude.{◌≡◌, ◌<◌, nat_le, ℤ, pos, negsuc, ◌+ℤ◌, ◌≤ℤ◌, int_lt, unsigned_abs, slice_get, Bool, true, false, if◌then◌else◌, List, [], ◌∷◌, length, slice_set, is_ok, Result, Ok, Err, refl}
use Rattle.std.specs.Option.{ok_or}
use Rattle.tt_core.specs.Limits.{coordinate_limit}
use Rattle.tt_core.specs.Outcomes.{◌>>=◌}
use Rattle.tt_core.specs.declared.fault.Why.{Why}
use Rattle.tt_core.specs.declared.fault.Why.TheVariants as why
use Rattle.tt_state.specs.declared.graphics_state.Axis.{Axis}
use Rattle.tt_state.specs.declared.graphics_state.Axis.TheVariants as axis
use Rattle.tt_state.specs.declared.graphics_state.Zone.{Zone}
use Rattle.tt_state.specs.declared.graphics_state.Zone.TheVariants as zone
use Rattle.tt_state.specs.declared.point.Point.{Point}
use Rattle.tt_points_zones.specs.Zones.{ZoneLists}

-- the point with both coordinates 0
abbrev pub origin : Point
origin = record {
  units_x = pos 0;
  units_y = pos 0;
  org_x = pos 0;
  org_y = pos 0;
  x = pos 0;
  y = pos 0;
  touched_x = false;
  touched_y = false;
  on = true;
}

-- a point's current coordinate on an axis
abbrev pub cur : Axis → Point → ℤ
cur axis.X p = p.x
cur axis.Y p = p.y

-- a point's original coordinate
abbrev pub org : Axis → Point → ℤ
org axis.X p = p.org_x
org axis.Y p = p.org_y

-- whether a point is touched along an axis
abbrev pub is_touched : Axis → Point → Bool
is_touched axis.X p = p.touched_x
is_touched axis.Y p = p.touched_y

-- a point at another coordinate
abbrev pub put : Axis → ℤ → Point → Point
put axis.X v p = record p { x = v }
put axis.Y v p = record p { y = v }

-- a point touched along an axis, or untouched
abbrev pub marked : Axis → Bool → Point → Point
marked axis.X touched p = record p { touched_x = touched }
marked axis.Y touched p = record p { touched_y = touched }

-- a coordinate within the limit (profile)
abbrev pub is_coordinate : ℤ → Bool
is_coordinate v = nat_le (unsigned_abs v) coordinate_limit

-- a point moved by a distance; its touches are unchanged
abbrev pub shifted : Axis → ℤ → Point → Result Point Why
shifted axis d p =
    if is_coordinate (cur axis p +ℤ d) then Ok (put axis (cur axis p +ℤ d) p) else Err why.ValueRange

-- a point moved by a distance, perhaps 0, and touched
abbrev pub moved : Axis → ℤ → Point → Result Point Why
moved axis d p = shifted axis d p >>= λ q. Ok (marked axis true q)

-- the point with a number, which may be a phantom point
abbrev pub point_at : ℤ → List Point → Result Point Why
point_at n ps = if int_lt n (pos 0) then Err why.PointRange else ok_or (slice_get ps (unsigned_abs n)) why.PointRange

abbrev pub points_in : Zone → ZoneLists → List Point
points_in zone.Twilight z = z.twilight
points_in zone.Glyph z = z.glyph

abbrev pub point_in : Zone → ℤ → ZoneLists → Result Point Why
point_in zone n z = point_at n (points_in zone z)

abbrev pub has_point : Zone → ℤ → ZoneLists → Bool
has_point zone n z = is_ok (point_in zone n z)

-- the zones with a point replaced
abbrev pub with_point : Zone → ℤ → Point → ZoneLists → ZoneLists
with_point zone.Twilight n p z = record z { twilight = slice_set z.twilight (unsigned_abs n) p }
with_point zone.Glyph n p z = record z { glyph = slice_set z.glyph (unsigned_abs n) p }

-- a number with a point in a zone
pub record HasPoint (zone : Zone) (n : ℤ) (z : ZoneLists) : Type 0 where
  pub sign : pos 0 ≤ℤ n
  pub within : unsigned_abs n < length (points_in zone z)

-- worked values
abbrev a_point : Point
a_point = record origin { x = pos 10; y = pos 20 }

moved_along_y : moved axis.Y (pos 5) a_point ≡ Ok (record a_point { y = pos 25; touched_y = true })
moved_along_y = refl

past_the_limit : moved axis.X (pos 2097142) a_point ≡ Err why.ValueRange
past_the_limit = refl

no_point_minus_one : point_at (negsuc 0) (a_point ∷ []) ≡ Err why.PointRange
no_point_minus_one = refl

no_point_one : point_at (pos 1) (a_point ∷ []) ≡ Err why.PointRange
no_point_one = refl
