-- OpenType, "TrueType Fundamentals", the scan converter's rules 1 and 2; Apple TrueType Reference Manual, "Digitizing
-- Letterform Designs": a point is inside where its winding number is not 0. All numbers here are in 1/8192 pixel,
-- except the numbers of columns and rows.
use Rattle.std.specs.Prelude.{◌≡◌, ℕ, ◌+◌, ◌^◌, ◌<◌, ◌≤◌, Bool, true, false, ◌&&◌, ◌||◌, not, if◌then◌else◌, ℤ, pos, negsuc, ◌+ℤ◌, ◌-ℤ◌, ◌*ℤ◌, int_lt, int_le, unsigned_abs, List, [], ◌∷◌, map, refl}
use Rattle.std.specs.List.{Any, sum_by, range_with_len}
use Rattle.tt_core.specs.Limits.{width_limit, height_limit, margin_limit}
use Rattle.tt_scan_edges.specs.declared.edge.Edge.{Edge}
use Rattle.tt_scan_edges.specs.declared.edge.Frame.{Frame}

-- limits on an edge and a frame: at most the rows of a picture, and two more on each side, which dropout control needs
pub record EdgeFits (e : Edge) : Type 0 where
  pub ax : unsigned_abs e.ax < 2 ^ 30
  pub ay : unsigned_abs e.ay < 2 ^ 30
  pub bx : unsigned_abs e.bx < 2 ^ 30
  pub by : unsigned_abs e.by < 2 ^ 30

pub record FrameFits (f : Frame) : Type 0 where
  pub width_low : 1 ≤ f.width
  pub width_high : f.width ≤ width_limit
  pub height_low : 1 ≤ f.height
  pub height_high : f.height ≤ height_limit + 4
  pub margin : f.margin ≤ margin_limit
  pub rise : unsigned_abs f.rise < 2 ^ 20

-- the place of the centres of a column
abbrev pub column_x : ℕ → ℤ → ℤ
column_x margin column = pos 8192 *ℤ (column -ℤ pos margin) +ℤ pos 4096

-- the height of the centres of a row
abbrev pub row_y : Frame → ℤ → ℤ
row_y f row = pos 8192 *ℤ ((f.rise +ℤ pos f.margin) -ℤ row) -ℤ pos 4096

-- the side of a point at an edge's line, seen from a to b: below 0 on the right, above 0 on the left
abbrev pub side : Edge → ℤ → ℤ → ℤ
side e x y = (e.bx -ℤ e.ax) *ℤ (y -ℤ e.ay) -ℤ (e.by -ℤ e.ay) *ℤ (x -ℤ e.ax)

abbrev pub is_zero : ℤ → Bool
is_zero z = int_le z (pos 0) && int_le (pos 0) z

-- z lies between a and b, both included, whichever is the lower
abbrev pub is_between : ℤ → ℤ → ℤ → Bool
is_between a b z = (int_le a z && int_le z b) || (int_le b z && int_le z a)

-- rule 2: the point lies on the edge, its ends included
abbrev pub lies_on : Edge → ℤ → ℤ → Bool
lies_on e x y = is_zero (side e x y) && is_between e.ax e.bx x && is_between e.ay e.by y

-- the turn of an edge at a height: +1 where it rises through it, -1 where it falls; the lower end counts, the upper
-- does not
abbrev pub edge_turn : Edge → ℤ → ℤ
edge_turn e y =
    if int_le e.ay y && int_lt y e.by then pos 1
    else (if int_le e.by y && int_lt y e.ay then negsuc 0 else pos 0)

-- what an edge adds to the winding of a point: its turn at the point's height, where the point lies strictly right of
-- it
abbrev pub turned : Edge → ℤ → ℤ → ℤ
turned e x y =
    if int_le e.ay y && int_lt y e.by && int_lt (side e x y) (pos 0) then pos 1
    else (if int_le e.by y && int_lt y e.ay && int_lt (pos 0) (side e x y) then negsuc 0 else pos 0)

-- the number of times that the edges go round a point
abbrev pub winding : List Edge → ℤ → ℤ → ℤ
winding [] x y = pos 0
winding (e ∷ es) x y = turned e x y +ℤ winding es x y

abbrev pub lies_on_one : List Edge → ℤ → ℤ → Bool
lies_on_one [] x y = false
lies_on_one (e ∷ es) x y = lies_on e x y || lies_on_one es x y

-- a centre is black where it lies on an edge, or inside by rule 1
abbrev pub is_black : List Edge → ℤ → ℤ → Bool
is_black es x y = lies_on_one es x y || not (is_zero (winding es x y))

-- a point lies on some edge of a list
abbrev pub LiesOnSome : List Edge → ℤ → ℤ → Type 0
LiesOnSome es x y = Any (λ e. lies_on e x y ≡ true) es

-- the number of edges with a row's centre line in their closed range of heights
abbrev pub rows_met : List Edge → ℤ → ℕ
rows_met [] y = 0
rows_met (e ∷ es) y = (if is_between e.ay e.by y then 1 else 0) + rows_met es y

-- the crossings that all rows of a picture need: in each row one of every edge that meets it
abbrev pub crossings_of : Frame → List Edge → ℕ
crossings_of f es = sum_by (λ row. rows_met es (row_y f (pos row))) (range_with_len 0 f.height)

-- an edge, and edges, moved to the right
abbrev pub moved_edge : ℤ → Edge → Edge
moved_edge d e = record { ax = e.ax +ℤ d; ay = e.ay; bx = e.bx +ℤ d; by = e.by }

abbrev pub moved_edges : ℤ → List Edge → List Edge
moved_edges d es = map (moved_edge d) es

-- worked values: a square from (1,1) to (3,3), upwards on its left
edge : ℤ → ℤ → ℤ → ℤ → Edge
edge ax ay bx by = record { ax = ax; ay = ay; bx = bx; by = by }

square : List Edge
square = edge (pos 1) (pos 1) (pos 1) (pos 3) ∷ edge (pos 1) (pos 3) (pos 3) (pos 3) ∷ edge (pos 3) (pos 3) (pos 3) (pos 1) ∷ edge (pos 3) (pos 1) (pos 1) (pos 1) ∷ []

-- inside, on its right edge, and right of it
along_its_middle : map (λ x. is_black square x (pos 2)) (pos 2 ∷ pos 3 ∷ pos 4 ∷ []) ≡ true ∷ true ∷ false ∷ []
unfolding square edge
along_its_middle = refl

above_it_is_white : is_black square (pos 2) (pos 4) ≡ false
unfolding square edge
above_it_is_white = refl

a_point_is_black_at_itself : is_black (edge (pos 5) (pos 5) (pos 5) (pos 5) ∷ []) (pos 5) (pos 5) ≡ true
unfolding edge
a_point_is_black_at_itself = refl

-- the square's four edges: the level ones count at their own height alone
lower_side_middle_and_above : map (rows_met square) (pos 1 ∷ pos 2 ∷ pos 4 ∷ []) ≡ 3 ∷ 2 ∷ 0 ∷ []
unfolding square edge
lower_side_middle_and_above = refl

-- a picture of three rows, whose centre lines are at 12288, 4096 and -4096
three_rows : Frame
three_rows = record { width = 2; height = 3; margin = 0; rise = pos 2 }

-- the first two rows meet the upright edge, and no row meets the level one, which is between them
between_rows_none_is_asked : crossings_of three_rows (edge (pos 0) (pos 0) (pos 0) (pos 16384) ∷ edge (pos 0) (pos 8192) (pos 9) (pos 8192) ∷ []) ≡ 2
unfolding three_rows edge
between_rows_none_is_asked = refl

-- an edge from the last row's centre line to the first's, and a level one along the first's
ends_meet_their_rows : crossings_of three_rows (edge (pos 0) (negsuc 4095) (pos 0) (pos 12288) ∷ edge (pos 0) (pos 12288) (pos 9) (pos 12288) ∷ []) ≡ 4
unfolding three_rows edge
ends_meet_their_rows = refl

-- the square three to the right
moved_its_left_edge_is_black : is_black (moved_edges (pos 3) square) (pos 4) (pos 2) ≡ true
unfolding square edge
moved_its_left_edge_is_black = refl

moved_it_leaves_its_place : is_black (moved_edges (pos 3) square) (pos 2) (pos 2) ≡ false
unfolding square edge
moved_it_leaves_its_place = refl
