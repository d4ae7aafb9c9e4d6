-- Apple TrueType Reference Manual, "Instruction set" (IUP[a]) and "Instructing TrueType Glyphs" (touched points):
-- untouched points move with the nearest touched points. Coordinates are in 26.6 pixels. In a glyph zone in font units,
-- these decide order and proportion (profile).
use Rattle.std.specs.Prelude.{◌≡◌, ℕ, ℤ, pos, negsuc, ◌+ℤ◌, ◌-ℤ◌, ◌*ℤ◌, int_le, int_lt, Bool, true, false, if◌then◌else◌, List, [], ◌∷◌, ◌++◌, drop, slice_range, Option, Some, None, Result, Ok, Err, refl, map}
use Rattle.std.specs.List.{list_all}
use Rattle.std.specs.Ordering.{int_eq}
use Rattle.tt_core.specs.Outcomes.{◌>>=◌}
use Rattle.tt_core.specs.Scales.{quotient, rounded_scale}
use Rattle.tt_core.specs.declared.fault.Why.{Why}
use Rattle.tt_core.specs.declared.fault.Why.TheVariants as why
use Rattle.tt_core.specs.declared.halves.Halves.{Halves}
use Rattle.tt_core.specs.declared.halves.Halves.TheVariants as halves
use Rattle.tt_core.specs.declared.scaling.Scale.{Scale}
use Rattle.tt_state.specs.declared.graphics_state.Axis.{Axis}
use Rattle.tt_state.specs.declared.graphics_state.Axis.TheVariants as axis
use Rattle.tt_state.specs.declared.point.Point.{Point}
use Rattle.tt_points_zones.specs.Points.{cur, org, is_touched, put, is_coordinate}
use Rattle.tt_points_zones.specs.Zones.{ZoneLists, in_pixels}
use Rattle.tt_points_zones.specs.declared.zones.Originals.{Originals}
use Rattle.tt_points_iup.specs.declared.place.Along.{Along}

-- A point's original and current coordinate on an axis. `from` decides its order among others, and its share of the way
-- between two.
pub record AxisPosition : Type 0 where
  pub from : ℤ
  pub org : ℤ
  pub cur : ℤ

abbrev pub units : Axis → Point → ℤ
units axis.X p = p.units_x
units axis.Y p = p.units_y

-- in font units for a zone in these, otherwise in 26.6
abbrev pub measured : Option Scale → Axis → Point → ℤ
measured None axis p = org axis p
measured (Some s) axis p = units axis p

abbrev pub position_at : Along → Point → AxisPosition
position_at along p = record {
  from = measured along.originals.units along.axis p;
  org = org along.axis p;
  cur = cur along.axis p;
}

-- the quotient of a way and a range in 16.16; 0 for a range of 0, where no point is between
abbrev pub factor : Halves → ℤ → ℤ → ℤ
factor halves way range = if int_eq range (pos 0) then pos 0 else quotient halves (pos 65536 *ℤ way) range

-- The share of a way that a part has of a range: the part times the multiplier, divided by the divisor. In font units
-- the quotient of way and range is rounded first.
abbrev pub multiplier : Option Scale → Halves → ℤ → ℤ → ℤ
multiplier None halves way range = way
multiplier (Some s) halves way range = factor halves way range

abbrev pub divisor : Option Scale → ℤ → ℤ
divisor None range = range
divisor (Some s) range = pos 65536

abbrev pub share : Originals → ℤ → ℤ → ℤ → ℤ
share by part way range =
    quotient by.halves (part *ℤ multiplier by.units by.halves way range) (divisor by.units range)

-- the current coordinate with the original share of the way from the lower to the upper position
abbrev pub in_proportion : Originals → AxisPosition → AxisPosition → AxisPosition → ℤ
in_proportion by p lo hi = lo.cur +ℤ share by (p.from -ℤ lo.from) (hi.cur -ℤ lo.cur) (hi.from -ℤ lo.from)

-- a position: moved as the lower one if its original is not above that one's; as the upper one if it is not below that
-- one's; otherwise in proportion. The test is in 26.6, for a zone in font units too.
abbrev pub following : Originals → AxisPosition → AxisPosition → AxisPosition → ℤ
following by p lo hi =
    if int_le p.org lo.org then p.org +ℤ (lo.cur -ℤ lo.org)
    else (if int_le hi.org p.org then p.org +ℤ (hi.cur -ℤ hi.org) else in_proportion by p lo hi)

-- the lower position is the one with the lower original, in font units for a zone in these
abbrev pub between : Originals → AxisPosition → AxisPosition → AxisPosition → ℤ
between by p a b = if int_lt b.from a.from then following by p b a else following by p a b

-- a point between two positions; it is still untouched
abbrev pub placed_between : Along → AxisPosition → AxisPosition → Point → Point
placed_between along lo hi p = put along.axis (following along.originals (position_at along p) lo hi) p

-- an untouched point between two touched ones
unfoldable pub interpolated : Along → Point → Point → Point → Point
interpolated along a b p =
    put along.axis (between along.originals (position_at along p) (position_at along a) (position_at along b)) p

abbrev pub first_touched : Axis → List Point → Option Point
first_touched axis [] = None
first_touched axis (p ∷ ps) = if is_touched axis p then Some p else first_touched axis ps

-- the last touched point, or the one found before
abbrev pub last_touched : Axis → Option Point → List Point → Option Point
last_touched axis found [] = found
last_touched axis found (p ∷ ps) = last_touched axis (if is_touched axis p then Some p else found) ps

-- Without a touched point in its contour a point is unchanged.
abbrev pub interpolated_by : Along → Option Point → Option Point → Point → Point
interpolated_by along (Some a) (Some b) p = interpolated along a b p
interpolated_by along (Some a) None p = p
interpolated_by along None b p = p

-- a point, with the others of its contour from the next one round to the one before
abbrev pub interpolated_among : Along → List Point → Point → Point
interpolated_among along others p =
    if is_touched along.axis p then p
    else interpolated_by along (last_touched along.axis None others) (first_touched along.axis others) p

-- the points of a contour after its front, each interpolated among the others at their old places
abbrev pub contour_from : Along → List Point → List Point → List Point
contour_from along front [] = []
contour_from along front (p ∷ back) =
    interpolated_among along (back ++ front) p ∷ contour_from along (front ++ p ∷ []) back

unfoldable pub contour : Along → List Point → List Point
contour along ps = contour_from along [] ps

-- each contour by itself; the phantom points, after the last contour, are unchanged
abbrev pub contours : Along → ℕ → List (ℕ × ℕ) → List Point → List Point
contours along at [] ps = drop at ps
contours along at (c ∷ cs) ps = contour along (slice_range ps c.0 c.1) ++ contours along c.1 cs ps

abbrev pub within : Axis → Point → Bool
within axis p = is_coordinate (cur axis p)

-- one point, and a list of them, within the limit of coordinates (profile)
abbrev pub limited_point : Axis → Point → Result Point Why
limited_point axis p = if within axis p then Ok p else Err why.ValueRange

abbrev pub limited : Axis → List Point → Result (List Point) Why
limited axis ps = if list_all (within axis) ps then Ok ps else Err why.ValueRange

-- IUP[a], 0x30 along y and 0x31 along x, in the glyph zone
abbrev pub along_in : Axis → ZoneLists → Along
along_in axis z = record { axis = axis; originals = z.originals }

abbrev pub iup : Axis → ZoneLists → Result ZoneLists Why
iup axis z =
    limited axis (contours (along_in axis z) 0 z.contours z.glyph) >>= λ ps. Ok (record z { glyph = ps })

-- worked values, in 26.6
abbrev along_x : Along
along_x = record { axis = axis.X; originals = in_pixels halves.Up }

abbrev at : ℤ → ℤ → Bool → Point
at org cur touched =
    record { units_x = pos 0; units_y = pos 0; org_x = org; org_y = pos 0; x = cur; y = pos 0; touched_x = touched; touched_y = false; on = true }

abbrev untouched : ℤ → Point
untouched org = at org org false

-- in proportion between the two, and shifted below both
between_and_below : map (λ p. contour along_x (at (pos 0) (pos 10) true ∷ untouched p ∷ at (pos 100) (pos 130) true ∷ []))
    (pos 25 ∷ negsuc 4 ∷ [])
    ≡ (at (pos 0) (pos 10) true ∷ at (pos 25) (pos 40) false ∷ at (pos 100) (pos 130) true ∷ [])
    ∷ (at (pos 0) (pos 10) true ∷ at (negsuc 4) (pos 5) false ∷ at (pos 100) (pos 130) true ∷ [])
    ∷ []
unfolding contour interpolated
between_and_below = refl

nothing_touched : contour along_x (untouched (pos 0) ∷ untouched (pos 25) ∷ untouched (pos 100) ∷ [])
    ≡ untouched (pos 0) ∷ untouched (pos 25) ∷ untouched (pos 100) ∷ []
unfolding contour
nothing_touched = refl

one_touched : contour along_x (untouched (pos 0) ∷ at (pos 100) (pos 110) true ∷ untouched (pos 50) ∷ [])
    ≡ at (pos 0) (pos 10) false ∷ at (pos 100) (pos 110) true ∷ at (pos 50) (pos 60) false ∷ []
unfolding contour interpolated
one_touched = refl

equal_originals : contour along_x (at (pos 40) (pos 45) true ∷ untouched (pos 40) ∷ at (pos 40) (pos 60) true ∷ [])
    ≡ at (pos 40) (pos 45) true ∷ at (pos 40) (pos 45) false ∷ at (pos 40) (pos 60) true ∷ []
unfolding contour interpolated
equal_originals = refl

past_the_limit : iup axis.X (record {
  twilight = [];
  glyph = at (pos 0) (negsuc 0) true ∷ untouched (negsuc 2097150) ∷ [];
  contours = (0, 2) ∷ [];
  originals = in_pixels halves.Up;
}) ≡ Err why.ValueRange
unfolding contour interpolated
past_the_limit = refl

phantom_points_stay : iup axis.X (record {
  twilight = [];
  glyph = at (pos 0) (pos 10) true ∷ untouched (pos 0) ∷ untouched (pos 5) ∷ [];
  contours = (0, 2) ∷ [];
  originals = in_pixels halves.Up;
}) ≡ Ok (record {
  twilight = [];
  glyph = at (pos 0) (pos 10) true ∷ at (pos 0) (pos 10) false ∷ untouched (pos 5) ∷ [];
  contours = (0, 2) ∷ [];
  originals = in_pixels halves.Up;
})
unfolding contour interpolated
phantom_points_stay = refl

-- half of a way of -1
a_half_up : contour along_x (at (pos 0) (pos 0) true ∷ untouched (pos 1) ∷ at (pos 2) (negsuc 0) true ∷ [])
    ≡ at (pos 0) (pos 0) true ∷ at (pos 1) (pos 0) false ∷ at (pos 2) (negsuc 0) true ∷ []
unfolding contour interpolated
a_half_up = refl

a_half_away : contour (record along_x { originals = in_pixels halves.AwayFromZero })
    (at (pos 0) (pos 0) true ∷ untouched (pos 1) ∷ at (pos 2) (negsuc 0) true ∷ [])
    ≡ at (pos 0) (pos 0) true ∷ at (pos 1) (negsuc 0) false ∷ at (pos 2) (negsuc 0) true ∷ []
unfolding contour interpolated
a_half_away = refl

-- worked values, in font units
abbrev in_units : Scale → Along
in_units s = record { axis = axis.X; originals = record { units = Some s; halves = halves.AwayFromZero } }

no_range : share (in_units (rounded_scale 13 1024)).originals (pos 1) (pos 64) (pos 0) ≡ pos 0
no_range = refl

abbrev from_units : ℤ → Point → Point
from_units units p = record p { units_x = units }

-- 73 of 200 units over a way of 192 are 70; by their originals, 59 of 163, they would be 69
units_in_proportion : contour (in_units (rounded_scale 13 1024))
    (at (pos 0) (pos 0) true ∷ from_units (pos 73) (untouched (pos 59))
    ∷ from_units (pos 200) (at (pos 163) (pos 192) true) ∷ [])
    ≡ at (pos 0) (pos 0) true ∷ from_units (pos 73) (at (pos 59) (pos 70) false)
    ∷ from_units (pos 200) (at (pos 163) (pos 192) true) ∷ []
unfolding contour interpolated
units_in_proportion = refl

-- of two equal originals the one with fewer units is the lower one, even if it comes later
order_by_units : contour (in_units (rounded_scale 9 2048))
    (from_units (pos 101) (at (pos 28) (pos 92) true) ∷ from_units (pos 71) (untouched (pos 20))
    ∷ from_units (pos 100) (at (pos 28) (pos 28) true) ∷ [])
    ≡ from_units (pos 101) (at (pos 28) (pos 92) true) ∷ from_units (pos 71) (at (pos 20) (pos 20) false)
    ∷ from_units (pos 100) (at (pos 28) (pos 28) true) ∷ []
unfolding contour interpolated
order_by_units = refl
