-- Apple TrueType Reference Manual, "Instruction set": managing outlines (SHP, SHC, SHZ): points follow a reference
-- point. Distances are in 26.6 pixels.
use Rattle.std.specs.Prelude.{◌≡◌, ℕ, ◌-◌, ◌==◌, ℤ, pos, negsuc, int_lt, unsigned_abs, slice_get, Bool, true, false, if◌then◌else◌, List, [], ◌∷◌, length, Option, Some, None, Result, Ok, Err, refl}
use Rattle.std.specs.Option.{ok_or}
use Rattle.std.specs.Ordering.{int_eq}
use Rattle.tt_core.specs.Outcomes.{◌>>=◌}
use Rattle.tt_core.specs.declared.fault.Why.{Why}
use Rattle.tt_core.specs.declared.fault.Why.TheVariants as why
use Rattle.tt_core.specs.declared.halves.Halves.TheVariants as halves
use Rattle.tt_state.specs.GraphicsState.{default_state}
use Rattle.tt_state.specs.declared.graphics_state.GraphicsState.{GraphicsState}
use Rattle.tt_state.specs.declared.graphics_state.Zone.{Zone}
use Rattle.tt_state.specs.declared.graphics_state.Zone.TheVariants as zone
use Rattle.tt_state.specs.declared.point.Point.{Point}
use Rattle.tt_state.specs.declared.tolerance.Tolerance.{Tolerance}
use Rattle.tt_state.specs.declared.tolerance.Tolerance.TheVariants as tolerance
use Rattle.tt_state.specs.declared.vector.Vector.TheVariants as vector
use Rattle.tt_state.specs.Vectors.{project}
use Rattle.tt_points_zones.specs.Motions.{direction, offset, shifted, moved}
use Rattle.tt_points_zones.specs.Points.{points_in, point_in, with_point}
use Rattle.tt_points_zones.specs.ZoneNumbers.{zone_of}
use Rattle.tt_points_zones.specs.Zones.{ZoneLists, in_pixels}
use Rattle.tt_points_zones.specs.declared.motion.Motion.{Motion}
use Rattle.tt_points_loops.specs.declared.shifting.ReferencePoint.{ReferencePoint}
use Rattle.tt_points_loops.specs.declared.shifting.ReferencePoint.TheVariants as by
use Rattle.tt_points_loops.specs.Series.{each_from_to, looped}
use Rattle.tt_points_loops.specs.Slanted.{point, moved_to, rising, slanted, risen, at_first, moved_on}

-- the reference point: rp1 in zp0, or rp2 in zp1
abbrev pub reference_zone : ReferencePoint → GraphicsState → Zone
reference_zone by.Rp1 g = g.zp0
reference_zone by.Rp2 g = g.zp1

abbrev pub reference_number : ReferencePoint → GraphicsState → ℤ
reference_number by.Rp1 g = g.rp1
reference_number by.Rp2 g = g.rp2

abbrev pub reference : ReferencePoint → GraphicsState → ZoneLists → Result Point Why
reference which g z = point_in (reference_zone which g) (reference_number which g) z

-- a point moved as far as a reference point has moved: touched, or with its touches unchanged
abbrev pub moved_as : Motion → Point → Point → Result Point Why
moved_as m r p = moved m (offset m r) p

abbrev pub shifted_as : Motion → Point → Point → Result Point Why
shifted_as m r p = shifted m (offset m r) p

abbrev pub follow : Bool → GraphicsState → Point → Point → Result Point Why
follow touch g r p = direction g >>= λ m. if touch then moved_as m r p else shifted_as m r p

-- SHP: moves points of zp2 by the distance of the reference point from its original place, before the first move
abbrev pub shift : GraphicsState → Result Point Why → ℤ → ZoneLists → Result ZoneLists Why
shift g before n z =
    point_in g.zp2 n z >>= λ p. before >>= λ r. follow true g r p >>= λ q. Ok (with_point g.zp2 n q z)

abbrev pub shp : Tolerance → ReferencePoint → List ℤ → ZoneLists → GraphicsState
    → Result (ZoneLists × GraphicsState) Why
shp t which points z g = looped t (shift g (reference which g z)) points z g

-- the number of the reference point, if it is in this zone
abbrev pub number_in : Zone → Zone → ℤ → Option ℕ
number_in zone.Twilight zone.Twilight n = Some (unsigned_abs n)
number_in zone.Glyph zone.Glyph n = Some (unsigned_abs n)
number_in zone.Twilight zone.Glyph n = None
number_in zone.Glyph zone.Twilight n = None

abbrev pub is_but : Option ℕ → ℕ → Bool
is_but None i = false
is_but (Some n) i = n == i

-- a point after it follows the reference point, which itself is unchanged
abbrev pub follow_but : Option ℕ → Bool → GraphicsState → Point → ℕ → Point → Result Point Why
follow_but but touch g r i p = if is_but but i then Ok p else follow touch g r p

abbrev pub with_points : Zone → List Point → ZoneLists → ZoneLists
with_points zone.Twilight ps z = record z { twilight = ps }
with_points zone.Glyph ps z = record z { glyph = ps }

-- a step for each point of a range of a zone
abbrev pub follow_in : Zone → ℕ → ℕ → (ℕ → Point → Result Point Why) → ZoneLists → Result ZoneLists Why
follow_in zone first past move z =
    each_from_to first past move 0 (points_in zone z) >>= λ ps. Ok (with_points zone ps z)

-- the points of a range of a zone after they follow the reference point, which is unchanged
abbrev pub shift_range : Bool → ReferencePoint → Zone → ℕ × ℕ → ZoneLists → GraphicsState → Result ZoneLists Why
shift_range touch which zone range z g =
    reference which g z >>= λ r.
    follow_in zone range.0 range.1
    (follow_but (number_in zone (reference_zone which g) (reference_number which g)) touch g r) z

abbrev pub contour_at : ℤ → List (ℕ × ℕ) → Result (ℕ × ℕ) Why
contour_at c contours =
    if int_lt c (pos 0) then Err why.ContourRange else ok_or (slice_get contours (unsigned_abs c)) why.ContourRange

-- the points of a contour; the twilight zone is contour 0 (profile)
abbrev pub contour_in : Zone → ℤ → ZoneLists → Result (ℕ × ℕ) Why
contour_in zone.Twilight c z = if int_eq c (pos 0) then Ok (0, length z.twilight) else Err why.ContourRange
contour_in zone.Glyph c z = contour_at c z.contours

-- SHC: the points of a contour of zp2
abbrev pub shc : ReferencePoint → ℤ → ZoneLists → GraphicsState → Result ZoneLists Why
shc which c z g = contour_in g.zp2 c z >>= λ range. shift_range true which g.zp2 range z g

-- the end of the last contour, where phantom points begin
abbrev pub end_of : Option (ℕ × ℕ) → ℕ
end_of None = 0
end_of (Some contour) = contour.1

abbrev pub contours_end : List (ℕ × ℕ) → ℕ
contours_end contours = end_of (slice_get contours (length contours - 1))

abbrev pub outline_in : Zone → ZoneLists → ℕ × ℕ
outline_in zone.Twilight z = (0, length z.twilight)
outline_in zone.Glyph z = (0, contours_end z.contours)

-- SHZ: the points of a zone without its phantom points; it touches none
unfoldable pub shz : ReferencePoint → ℤ → ZoneLists → GraphicsState → Result ZoneLists Why
shz which e z g = zone_of e >>= λ zone. shift_range false which zone (outline_in zone z) z g

-- worked values, along x
abbrev glyph : List Point → ZoneLists
glyph ps = record { twilight = []; glyph = ps; contours = (0, 2) ∷ []; originals = in_pixels halves.Up }

-- rp2 itself is among the points: it moves, but the next point goes no further
taken_once : shp tolerance.Strict by.Rp2 (pos 1 ∷ pos 0 ∷ [])
    (glyph (point (pos 5) (pos 7) ∷ point (pos 1) (pos 2) ∷ [])) default_state
    ≡ Ok (glyph (moved_to (pos 5) (pos 9) ∷ moved_to (pos 1) (pos 4) ∷ []), default_state)
unfolding direction project
taken_once = refl

a_point_passed_over : shp tolerance.Tolerant by.Rp2 (pos 9 ∷ pos 1 ∷ [])
    (glyph (point (pos 5) (pos 7) ∷ point (pos 1) (pos 2) ∷ [])) (record default_state { loops = 2 })
    ≡ Ok (glyph (point (pos 5) (pos 7) ∷ moved_to (pos 1) (pos 4) ∷ []), default_state)
unfolding direction project
a_point_passed_over = refl

no_reference_no_move : shp tolerance.Tolerant by.Rp2 (pos 0 ∷ []) (glyph (point (pos 5) (pos 7) ∷ []))
    (record default_state { rp2 = pos 50 })
    ≡ Ok (glyph (point (pos 5) (pos 7) ∷ []), record default_state { rp2 = pos 50 })
no_reference_no_move = refl

all_but_the_reference : shc by.Rp2 (pos 0)
    (glyph (point (pos 5) (pos 7) ∷ point (pos 1) (pos 2) ∷ point (pos 1) (pos 2) ∷ [])) default_state
    ≡ Ok (glyph (point (pos 5) (pos 7) ∷ moved_to (pos 1) (pos 4) ∷ point (pos 1) (pos 2) ∷ []))
unfolding direction project
all_but_the_reference = refl

untouched : shz by.Rp1 (pos 1)
    (glyph (point (pos 5) (pos 7) ∷ point (pos 1) (pos 2) ∷ point (pos 1) (pos 2) ∷ [])) default_state
    ≡ Ok (glyph (point (pos 5) (pos 7) ∷ point (pos 1) (pos 4) ∷ point (pos 1) (pos 2) ∷ []))
unfolding shz direction project
untouched = refl

no_contour_one : shc by.Rp2 (pos 1) (glyph []) (record default_state { rp2 = negsuc 0 }) ≡ Err why.ContourRange
no_contour_one = refl

no_reference : shz by.Rp2 (pos 0) (glyph []) (record default_state { rp2 = negsuc 0 }) ≡ Err why.PointRange
unfolding shz
no_reference = refl

nothing_to_move : shc by.Rp2 (pos 0) (glyph (point (pos 5) (pos 7) ∷ []))
    (record default_state { zp2 = zone.Twilight; free = vector.Y })
    ≡ Ok (glyph (point (pos 5) (pos 7) ∷ []))
nothing_to_move = refl

-- worked values, along a line that rises by 2 in 1: the reference point moved from (0, 100) to (10, 130)
abbrev along_a_line : GraphicsState
along_a_line = record (slanted rising) { rp2 = pos 1 }

abbrev outline : Point → ZoneLists
outline p = glyph (p ∷ risen ∷ [])

along_both_axes : shp tolerance.Strict by.Rp2 (pos 0 ∷ []) (outline at_first) along_a_line
    ≡ Ok (outline (moved_on (pos 64) (pos 118) true true), along_a_line)
unfolding direction project
along_both_axes = refl

a_contour_along_both_axes : shc by.Rp2 (pos 0) (outline at_first) along_a_line
    ≡ Ok (outline (moved_on (pos 64) (pos 118) true true))
unfolding direction project
a_contour_along_both_axes = refl

untouched_along_both_axes : shz by.Rp2 (pos 1) (outline at_first) along_a_line
    ≡ Ok (outline (moved_on (pos 64) (pos 118) false false))
unfolding shz direction project
untouched_along_both_axes = refl
