-- Apple TrueType Reference Manual, "Instructing TrueType Glyphs" (zones): twilight points have no place of their own
-- until an instruction gives them one. The choice of these places is this project's own (profile). Coordinates are in
-- 26.6 pixels.
use Rattle.std.specs.Prelude.{ℤ, Result, Ok}
use Rattle.tt_core.specs.Outcomes.{◌>>=◌}
use Rattle.tt_core.specs.declared.fault.Why.{Why}
use Rattle.tt_state.specs.declared.graphics_state.Zone.{Zone}
use Rattle.tt_state.specs.declared.graphics_state.Zone.TheVariants as zone
use Rattle.tt_state.specs.declared.point.Point.{Point}
use Rattle.tt_points_zones.specs.Zones.{ZoneLists}
use Rattle.tt_points_zones.specs.Points.{point_in, with_point}
use Rattle.tt_points_zones.specs.Motions.{shifted, shifted_along}
use Rattle.tt_points_zones.specs.declared.motion.Motion.{Motion}
use Rattle.tt_points.specs.declared.twilight.AlongVector.{AlongVector}
use Rattle.tt_points.specs.declared.twilight.AlongVector.TheVariants as along

-- a point whose original place is its current place
abbrev pub settled : Point → Point
settled p = record p { org_x = p.x; org_y = p.y }

abbrev pub settled_in : Zone → Point → Point
settled_in zone.Twilight p = settled p
settled_in zone.Glyph p = p

-- a point moved further along the freedom vector: by a distance along the projection vector, or along the freedom
-- vector itself
abbrev pub further : AlongVector → Motion → ℤ → Point → Result Point Why
further along.Projection m d p = shifted m d p
further along.Freedom m d p = shifted_along m.free d p

-- a point placed at a distance from another's original place; the new place becomes its original place too
unfoldable pub placed : AlongVector → Motion → ℤ → Point → Point → Result Point Why
placed by m d r p = further by m d (record p { x = r.org_x; y = r.org_y }) >>= λ q. Ok (settled q)

-- a twilight point is placed so; a glyph point is unchanged
unfoldable pub placed_in : Zone → AlongVector → Motion → ℤ → Point → Point → Result Point Why
placed_in zone.Twilight by m d r q = placed by m d r q
placed_in zone.Glyph by m d r q = Ok q

-- twilight point number p, placed by this rule; glyph points are unchanged
unfoldable pub made : Zone → AlongVector → Motion → ℤ → ℤ → Point → ZoneLists → Result ZoneLists Why
made zone.Twilight by m p d r z =
    point_in zone.Twilight p z >>= λ q. placed by m d r q >>= λ n. Ok (with_point zone.Twilight p n z)
made zone.Glyph by m p d r z = Ok z
