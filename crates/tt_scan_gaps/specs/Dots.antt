-- Dots: small contours none of whose crossings needs a pixel, so that dropout control draws nothing of them. A dot gets
-- the pixel that holds the middle of its box (profile). In 1/8192 pixel.
use Rattle.std.specs.Prelude.{◌≡◌, refl, Bool, true, false, not, ◌&&◌, ◌||◌, ℤ, pos, negsuc, ◌+ℤ◌, ◌-ℤ◌, ◌*ℤ◌, int_le, List, [], ◌∷◌, map, Option, Some, None}
use Rattle.std.specs.List.{list_any}
use Rattle.std.specs.Int.{int_div_euclid, int_max, int_min}
use Rattle.std.specs.Ordering.{int_eq}
use Rattle.tt_scan_edges.specs.declared.edge.Edge.{Edge}
use Rattle.tt_scan_gaps.specs.Boxes.{columns_in, greatest_x, least_x, rows_in}
use Rattle.tt_scan_gaps.specs.Gaps.{some_asks}
use Rattle.tt_scan_gaps.specs.Seen.{turned_round}
use Rattle.tt_scan_gaps.specs.Walk.{contour_marks}
use Rattle.tt_scan_gaps.specs.declared.extent.Extent.{Extent}
use Rattle.tt_scan_gaps.specs.declared.extent.Extents.{Extents}
use Rattle.tt_scan_gaps.specs.declared.mark.Columns.{Columns}

-- some crossing of a contour needs a pixel, by rows or by columns, whether its gap is free or not
abbrev pub asks_by_rows : Bool → List Edge → Bool
asks_by_rows stubs es = some_asks (contour_marks stubs es)

abbrev pub asks : Bool → List Edge → Bool
asks stubs es = asks_by_rows stubs es || asks_by_rows stubs (map turned_round es)

-- the box of the ends of edges; None of no edge
abbrev pub ends_box : List Edge → Option Extents
ends_box [] = None
ends_box (e ∷ es) = Some (record {
  across = record { low = least_x e.ax (e ∷ es); high = greatest_x e.ax (e ∷ es) };
  up = record { low = least_x e.ay (map turned_round (e ∷ es)); high = greatest_x e.ay (map turned_round (e ∷ es)) };
})

-- two columns or rows at most
abbrev pub are_two : Columns → Bool
are_two b = int_le (b.last -ℤ b.first) (pos 1)

abbrev pub length_of : Extent → ℤ
length_of e = e.high -ℤ e.low

-- how far a box reaches, the longer and the shorter way
abbrev pub longer : Extents → ℤ
longer b = int_max (length_of b.across) (length_of b.up)

abbrev pub shorter : Extents → ℤ
shorter b = int_min (length_of b.across) (length_of b.up)

-- a box is that of a dot: two columns and two rows at most, and at least 3/8 pixel one way and 1/8 pixel the other
abbrev pub is_dot_box : Extents → Bool
is_dot_box b =
    (are_two (columns_in b) && are_two (rows_in b)) && (int_le (pos 3072) (longer b) && int_le (pos 1024) (shorter b))

-- the column, or the row, that holds the middle; a middle on a border goes right, or up
abbrev pub middle : Extent → ℤ
middle e = int_div_euclid (e.low +ℤ e.high) (pos 16384)

abbrev pub is_middle : Extents → ℤ → ℤ → Bool
is_middle b c j = int_eq (middle b.across) c && int_eq (middle b.up) j

-- a contour with a box is a dot at the pixel of column c and row j
abbrev pub is_dot_in : Option Extents → Bool → ℤ → ℤ → Bool
is_dot_in None asking c j = false
is_dot_in (Some b) asking c j = is_dot_box b && (not asking && is_middle b c j)

unfoldable pub is_dot : Bool → List Edge → ℤ → ℤ → Bool
is_dot stubs es c j = is_dot_in (ends_box es) (asks stubs es) c j

-- some contour is a dot there
abbrev pub has_dot : Bool → List (List Edge) → ℤ → ℤ → Bool
has_dot stubs contours c j = list_any (λ es. is_dot stubs es c j) contours

-- a contour has the box of a dot, whether it needs a pixel or not
abbrev pub is_boxed_as_dot : Option Extents → Bool
is_boxed_as_dot None = false
is_boxed_as_dot (Some b) = is_dot_box b

abbrev pub has_dot_box : List Edge → Bool
has_dot_box es = is_boxed_as_dot (ends_box es)

-- worked values: rectangles between two corners in 26.6, so that pixel centres are at 32, 96, 160 and 224
side : ℤ → ℤ → ℤ → ℤ → Edge
side ax ay bx by = record { ax = pos 128 *ℤ ax; ay = pos 128 *ℤ ay; bx = pos 128 *ℤ bx; by = pos 128 *ℤ by }

rectangle : ℤ → ℤ → ℤ → ℤ → List Edge
rectangle l b r t = side l b l t ∷ side l t r t ∷ side r t r b ∷ side r b l b ∷ []

-- between four centres
it_crosses_no_line : is_dot false (rectangle (pos 104) (pos 104) (pos 152) (pos 152)) (pos 2) (pos 2) ≡ true
unfolding is_dot rectangle side
it_crosses_no_line = refl

below_the_base_line : is_dot false (rectangle (negsuc 151) (negsuc 151) (negsuc 103) (negsuc 103)) (negsuc 1) (negsuc 1) ≡ true
unfolding is_dot rectangle side
below_the_base_line = refl

-- over one line, whose crossings are a stub
over_a_line : is_dot false (rectangle (pos 40) (pos 80) (pos 80) (pos 120)) (pos 0) (pos 1) ≡ true
unfolding is_dot rectangle side
over_a_line = refl

where_stubs_are_drawn_it_needs_a_pixel : is_dot true (rectangle (pos 40) (pos 80) (pos 80) (pos 120)) (pos 0) (pos 1) ≡ false
unfolding is_dot rectangle side
where_stubs_are_drawn_it_needs_a_pixel = refl

-- its upper edge lies on a line and touches the line
below_a_line : is_dot false (rectangle (pos 40) (pos 70) (pos 80) (pos 96)) (pos 0) (pos 1) ≡ true
unfolding is_dot rectangle side
below_a_line = refl

where_stubs_are_drawn_its_upper_ends_count : is_dot true (rectangle (pos 40) (pos 70) (pos 80) (pos 96)) (pos 0) (pos 1) ≡ false
unfolding is_dot rectangle side
where_stubs_are_drawn_its_upper_ends_count = refl

-- half a pixel wide, its tip is no stub
a_wide_tip_needs_a_pixel : is_dot false (rectangle (pos 100) (pos 70) (pos 140) (pos 200)) (pos 1) (pos 2) ≡ false
unfolding is_dot rectangle side
a_wide_tip_needs_a_pixel = refl

a_high_tip_needs_one_too : is_dot false (rectangle (pos 70) (pos 100) (pos 200) (pos 140)) (pos 2) (pos 1) ≡ false
unfolding is_dot rectangle side
a_high_tip_needs_one_too = refl

-- 23 and 24 of 64 parts of a pixel
too_small : is_dot false (rectangle (pos 100) (pos 100) (pos 123) (pos 123)) (pos 1) (pos 1) ≡ false
unfolding is_dot rectangle side
too_small = refl

large_enough : is_dot false (rectangle (pos 100) (pos 100) (pos 124) (pos 124)) (pos 1) (pos 1) ≡ true
unfolding is_dot rectangle side
large_enough = refl

-- 7 and 8 parts high
too_thin : is_dot false (rectangle (pos 100) (pos 100) (pos 124) (pos 107)) (pos 1) (pos 1) ≡ false
unfolding is_dot rectangle side
too_thin = refl

thick_enough : is_dot false (rectangle (pos 100) (pos 100) (pos 124) (pos 108)) (pos 1) (pos 1) ≡ true
unfolding is_dot rectangle side
thick_enough = refl

two_columns : is_dot false (rectangle (pos 70) (pos 100) (pos 200) (pos 120)) (pos 2) (pos 1) ≡ true
unfolding is_dot rectangle side
two_columns = refl

three_columns : has_dot_box (rectangle (pos 10) (pos 100) (pos 200) (pos 120)) ≡ false
unfolding rectangle side
three_columns = refl

-- the middle on a border, and half a part left of the border and below
middle_on_a_border : is_dot false (rectangle (pos 112) (pos 112) (pos 144) (pos 144)) (pos 2) (pos 2) ≡ true
unfolding is_dot rectangle side
middle_on_a_border = refl

middle_before_a_border : is_dot false (rectangle (pos 111) (pos 111) (pos 144) (pos 144)) (pos 1) (pos 1) ≡ true
unfolding is_dot rectangle side
middle_before_a_border = refl

-- the same left of the origin and below
middle_on_a_border_before_the_origin : is_dot false (rectangle (negsuc 143) (negsuc 143) (negsuc 111) (negsuc 111)) (negsuc 1) (negsuc 1) ≡ true
unfolding is_dot rectangle side
middle_on_a_border_before_the_origin = refl

middle_below_that_border : is_dot false (rectangle (negsuc 144) (negsuc 144) (negsuc 111) (negsuc 111)) (negsuc 2) (negsuc 2) ≡ true
unfolding is_dot rectangle side
middle_below_that_border = refl

middle_at_the_origin : is_dot false (rectangle (negsuc 15) (negsuc 15) (pos 16) (pos 16)) (pos 0) (pos 0) ≡ true
unfolding is_dot rectangle side
middle_at_the_origin = refl

no_edge : is_dot false [] (pos 0) (pos 0) ≡ false
unfolding is_dot
no_edge = refl
