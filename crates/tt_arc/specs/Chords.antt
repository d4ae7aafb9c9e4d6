-- Apple TrueType Reference Manual, "Digitizing Letterform Designs". A contour is closed and runs from point to point.
-- Two points on the curve give a straight line, and a point off the curve gives a quadratic curve. Midway between two
-- points off the curve there is an implied point on it. Cutting a quadratic into chords is profile: into eight, or into
-- as many as its bend needs. Points are in 26.6, ends of quadratics in 1/128 pixel, edges in 1/8192 pixel.
use Rattle.std.specs.Prelude.{◌≡◌, ℕ, zero, suc, ◌+◌, ◌-◌, ◌*◌, ◌^◌, ◌<◌, ◌≤◌, Bool, false, ◌||◌, nat_eq, nat_lt, nat_le, max, if◌then◌else◌, ℤ, pos, ◌+ℤ◌, ◌-ℤ◌, ◌*ℤ◌, unsigned_abs, List, [], ◌∷◌, ◌++◌, length, map, get_or}
use Rattle.std.specs.List.{slice_index, slice_range, sum_by, flat_map, range_with_len}
use Rattle.tt_core.specs.Numbers.{nearest_quotient}
use Rattle.tt_scan_edges.specs.declared.edge.Edge.{Edge}
use Rattle.tt_scan_edges.specs.Joined.{joined}
use Rattle.tt_arc.specs.declared.rule.ChordRule.{ChordRule}
use Rattle.tt_arc.specs.declared.rule.ChordRule.TheVariants as rule
use Rattle.tt_arc.specs.declared.quadratic.Coordinates.{Coordinates}
use Rattle.tt_arc.specs.declared.quadratic.Quadratic.{Quadratic}
use Rattle.tt_arc.specs.declared.quadratic.CurveEnd.{CurveEnd}
use Rattle.tt_arc.specs.declared.quadratic.EdgeEnd.{EdgeEnd}
use Rattle.tt_arc.specs.declared.quadratic.Differences.{Differences}
use Rattle.tt_arc.specs.declared.point.PlacedPoint.{PlacedPoint}

-- a point moved by dx and dy
abbrev pub moved : ℤ → ℤ → ℤ × ℤ × Bool → PlacedPoint
moved dx dy p = record { x = p.0 +ℤ dx; y = p.1 +ℤ dy; on = p.2 }

-- a point on the curve as an end of an edge
abbrev pub edge_end_of : PlacedPoint → EdgeEnd
edge_end_of p = record { x = pos 128 *ℤ p.x; y = pos 128 *ℤ p.y }

-- the straight edge from a to b
abbrev pub edge_between : EdgeEnd → EdgeEnd → Edge
edge_between a b = record { ax = a.x; ay = a.y; bx = b.x; by = b.y }

-- the end of the quadratic of a point p off the curve, towards a neighbour n. The end is n, or the point midway if n is
-- off the curve too
abbrev pub curve_end_of : PlacedPoint → PlacedPoint → CurveEnd
curve_end_of n p = if n.on then record { x = pos 2 *ℤ n.x; y = pos 2 *ℤ n.y } else record { x = n.x +ℤ p.x; y = n.y +ℤ p.y }

-- the quadratic of a point p off the curve, between the points before and after it
abbrev pub quadratic_of : PlacedPoint → PlacedPoint → PlacedPoint → Quadratic
quadratic_of before p after = record { from = curve_end_of before p; control = p; to = curve_end_of after p }

-- one coordinate of a quadratic at t = k / n, n n times in 1/128 pixel:
-- (n - k)^2 from + 2 k (n - k) 2 control + k^2 to.
-- The control point is in 26.6, the ends in 1/128 pixel
abbrev pub weighed : ℕ → ℕ → Coordinates → ℤ
weighed n k b = (pos ((n - k) * (n - k)) *ℤ b.from +ℤ pos (4 * k * (n - k)) *ℤ b.control) +ℤ pos (k * k) *ℤ b.to

-- the same in 1/8192 pixel, rounded to the nearest whole number, a half upwards
abbrev pub chord_place : ℕ → ℕ → Coordinates → ℤ
chord_place n k b = nearest_quotient (pos 64 *ℤ weighed n k b) (pos (n * n))

-- the coordinates of a quadratic along x and along y
abbrev pub along_x : Quadratic → Coordinates
along_x c = record { from = c.from.x; control = c.control.x; to = c.to.x }

abbrev pub along_y : Quadratic → Coordinates
along_y c = record { from = c.from.y; control = c.control.y; to = c.to.y }

-- how far a quadratic bends along an axis, with its sign, and along the axis where it bends further; in 1/128 pixel
abbrev pub signed_bend : Coordinates → ℤ
signed_bend b = (b.from -ℤ pos 4 *ℤ b.control) +ℤ b.to

abbrev pub bend_of : Quadratic → ℕ
bend_of c = max (unsigned_abs (signed_bend (along_x c))) (unsigned_abs (signed_bend (along_y c)))

-- the least number of chords, from 1 by doubling to 16, that leave a quadratic by 1/1024 pixel at most; else 32
abbrev pub chords_of_bend : ℕ → ℕ
chords_of_bend bend = if nat_le (2 * bend) 1 then 1 else (if nat_le (2 * bend) 4 then 2 else
    (if nat_le (2 * bend) 16 then 4 else (if nat_le (2 * bend) 64 then 8 else (if nat_le (2 * bend) 256 then 16 else 32))))

-- how many chords a quadratic has
abbrev pub chord_count : ChordRule → Quadratic → ℕ
chord_count rule.Eight c = 8
chord_count rule.ByBend c = chords_of_bend (bend_of c)

-- of n chords, the start of chord k, and the end of chord k - 1
abbrev pub chord_end : ℕ → Quadratic → ℕ → EdgeEnd
chord_end n c k = record { x = chord_place n k (along_x c); y = chord_place n k (along_y c) }

-- the first of n chords, this many
unfoldable pub first_chords : ℕ → Quadratic → ℕ → List Edge
first_chords n c zero = []
first_chords n c (suc k) = first_chords n c k ++ edge_between (chord_end n c k) (chord_end n c (suc k)) ∷ []

-- the chords of a quadratic
abbrev pub chords_by : ChordRule → Quadratic → List Edge
chords_by r c = first_chords (chord_count r c) c (chord_count r c)

-- the edges of a point p, between the points before and after it
unfoldable pub edges_of : ChordRule → PlacedPoint → PlacedPoint → PlacedPoint → List Edge
edges_of r before p after =
    if p.on then (if after.on then edge_between (edge_end_of p) (edge_end_of after) ∷ [] else [])
    else chords_by r (quadratic_of before p after)

-- a point of a contour by its number; past the last point, a point at 0
abbrev pub point_at : List PlacedPoint → ℕ → PlacedPoint
point_at ps i = get_or ps i (record { x = pos 0; y = pos 0; on = false })

-- the numbers of the points before and after point i of a closed contour of n points
abbrev pub number_before : ℕ → ℕ → ℕ
number_before n zero = n - 1
number_before n (suc i) = i

abbrev pub number_after : ℕ → ℕ → ℕ
number_after n i = if nat_lt (i + 1) n then i + 1 else 0

-- the edges of point i of a closed contour
abbrev pub edges_at : ChordRule → List PlacedPoint → ℕ → List Edge
edges_at r ps i = edges_of r (point_at ps (number_before (length ps) i)) (point_at ps i) (point_at ps (number_after (length ps) i))

-- the chords and the straight edges of a closed contour, point by point; a single point has none
abbrev pub contour_chords : ChordRule → List PlacedPoint → List Edge
contour_chords r ps = if nat_lt 1 (length ps) then flat_map (edges_at r ps) (range_with_len 0 (length ps)) else []

-- of chords by bend, those that meet no line are joined; eight chords remain as they are
abbrev pub joined_by : ChordRule → List Edge → List Edge
joined_by rule.Eight es = es
joined_by rule.ByBend es = joined es

-- the edges of a closed contour
abbrev pub contour_edges : ChordRule → List PlacedPoint → List Edge
contour_edges r ps = joined_by r (contour_chords r ps)

-- the start of contour c: the end of the preceding contour
abbrev pub contour_start : List ℕ → ℕ → ℕ
contour_start ends zero = 0
contour_start ends (suc c) = slice_index ends c

-- the points of contour c
abbrev pub contour_at : List PlacedPoint → List ℕ → ℕ → List PlacedPoint
contour_at ps ends c = slice_range ps (contour_start ends c) (slice_index ends c)

-- the edges of all contours in sequence
abbrev pub outline_edges : ChordRule → List PlacedPoint → List ℕ → List Edge
outline_edges r ps ends = flat_map (λ c. contour_edges r (contour_at ps ends c)) (range_with_len 0 (length ends))

-- the edges of the contours, as a list for each
abbrev pub outline_contours : ChordRule → List PlacedPoint → List ℕ → List (List Edge)
outline_contours r ps ends = map (λ c. contour_edges r (contour_at ps ends c)) (range_with_len 0 (length ends))

-- how many chords and straight edges all contours have before any are joined
abbrev pub chords_of : ChordRule → List PlacedPoint → List ℕ → ℕ
chords_of r ps ends = sum_by (λ c. length (contour_chords r (contour_at ps ends c))) (range_with_len 0 (length ends))

-- the same for an outline moved by dx and dy
abbrev pub chord_edges : ChordRule → List (ℤ × ℤ × Bool) → List ℕ → ℤ → ℤ → List Edge
chord_edges r points ends dx dy = outline_edges r (map (moved dx dy) points) ends

abbrev pub chord_contours : ChordRule → List (ℤ × ℤ × Bool) → List ℕ → ℤ → ℤ → List (List Edge)
chord_contours r points ends dx dy = outline_contours r (map (moved dx dy) points) ends

abbrev pub chords_counted : ChordRule → List (ℤ × ℤ × Bool) → List ℕ → ℤ → ℤ → ℕ
chords_counted r points ends dx dy = chords_of r (map (moved dx dy) points) ends

-- a moved point within the program's range
pub record PointFits (p : PlacedPoint) : Type 0 where
  pub x : unsigned_abs p.x < 2 ^ 23
  pub y : unsigned_abs p.y < 2 ^ 23

-- a point within the program's range after a move by dx and dy
abbrev pub IsNear : ℤ → ℤ → ℤ × ℤ × Bool → Type 0
IsNear dx dy p = PointFits (moved dx dy p)

-- an end of a quadratic within the program's range
pub record CurveEndFits (j : CurveEnd) : Type 0 where
  pub x : unsigned_abs j.x + 2 ≤ 2 ^ 24
  pub y : unsigned_abs j.y + 2 ≤ 2 ^ 24

-- a quadratic within the program's range
pub record QuadraticFits (c : Quadratic) : Type 0 where
  pub from : CurveEndFits c.from
  pub control : PointFits c.control
  pub to : CurveEndFits c.to

-- the coordinates of such a quadratic along one axis
pub record CoordinatesFit (b : Coordinates) : Type 0 where
  pub from : unsigned_abs b.from + 2 ≤ 2 ^ 24
  pub control : unsigned_abs b.control < 2 ^ 23
  pub to : unsigned_abs b.to + 2 ≤ 2 ^ 24

-- one coordinate of a quadratic at k chords of h thirty-seconds each, its first difference there, and its second
-- difference, in 1/131072 pixel
pub record AreDifferences (b : Coordinates) (h k : ℕ) (s : Differences) : Type 0 where
  pub value : s.value ≡ weighed 32 (h * k) b
  pub first : h * (k + 1) ≤ 32 → s.value +ℤ s.first ≡ weighed 32 (h * (k + 1)) b
  pub second : s.second ≡ pos (2 * (h * h)) *ℤ signed_bend b
  pub small : unsigned_abs s.first ≤ 2 ^ 37 + 2 ^ 37 * k

-- 1, 2, 4 or 8: a number of chords with exact ends, or how many eighths of a quadratic each chord is
abbrev pub is_part : ℕ → Bool
is_part n = nat_eq n 1 || (nat_eq n 2 || (nat_eq n 4 || nat_eq n 8))

-- a coordinate in 1/8192 pixel with its differences, in 1/131072 pixel
abbrev pub sixteenfold : Differences → Differences
sixteenfold s = record { value = pos 16 *ℤ s.value; first = pos 16 *ℤ s.first; second = pos 16 *ℤ s.second }

-- an end of an edge within the program's range
pub record EdgeEndFits (s : EdgeEnd) : Type 0 where
  pub x : unsigned_abs s.x < 2 ^ 30
  pub y : unsigned_abs s.y < 2 ^ 30

-- worked values: Examples.antt
