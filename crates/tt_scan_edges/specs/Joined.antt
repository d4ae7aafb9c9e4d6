-- No part of the standard: edges that follow one another and meet no line are joined. A line runs through the centres
-- of a row of pixels, or of a column. What edges blacken, and where they cross lines, remains as it was.
use Rattle.std.specs.Prelude.{◌≡◌, refl, ◌^◌, ◌<◌, ◌≤◌, Bool, true, false, not, ◌&&◌, if◌then◌else◌, int_lt, unsigned_abs, ℤ, pos, negsuc, ◌+ℤ◌, ◌-ℤ◌, ◌*ℤ◌, List, [], ◌∷◌}
use Rattle.std.specs.Int.{int_div_euclid, int_rem_euclid}
use Rattle.std.specs.Ordering.{int_eq}
use Rattle.tt_scan_edges.specs.declared.edge.Edge.{Edge}
use Rattle.tt_scan_edges.specs.Winding.{is_between}

-- the place of a line
abbrev pub line_at : ℤ → ℤ
line_at k = pos 8192 *ℤ k +ℤ pos 4096

-- the last line at or below a place, and whether the place is on it
abbrev pub line_below : ℤ → ℤ
line_below v = int_div_euclid (v -ℤ pos 4096) (pos 8192)

abbrev pub lies_on_line : ℤ → Bool
lies_on_line v = int_eq (int_rem_euclid (v -ℤ pos 4096) (pos 8192)) (pos 0)

-- no line lies between two places, both included
abbrev pub meets_none : ℤ → ℤ → Bool
meets_none a b = int_eq (line_below a) (line_below b) && (not (lies_on_line a) && not (lies_on_line b))

-- a line that shows whether a place and another meet none
pub record IsTest (v line : ℤ) : Type 0 where
  pub small : unsigned_abs line < 2 ^ 41
  pub tells : (b : ℤ) → unsigned_abs b ≤ 2 ^ 31 → (int_lt line b && int_lt b (line +ℤ pos 8192)) ≡ meets_none v b

-- an edge meets no line of rows and no line of columns
abbrev pub is_clear : Edge → Bool
is_clear e = meets_none e.ax e.bx && meets_none e.ay e.by

-- the edge from the start of an edge to the end of the next
abbrev pub join : Edge → Edge → Edge
join e f = record { ax = e.ax; ay = e.ay; bx = f.bx; by = f.by }

-- an edge ends where the next begins
abbrev pub leads_to : Edge → Edge → Bool
leads_to e f = int_eq e.bx f.ax && int_eq e.by f.ay

-- the end of an edge lies between its start and the end of the next edge, along both axes
abbrev pub goes_on : Edge → Edge → Bool
goes_on e f = is_between e.ax f.bx e.bx && is_between e.ay f.by e.by

-- an edge and the next are joined where neither meets a line, and their common end lies between the two others
abbrev pub joins : Edge → Edge → Bool
joins e f = leads_to e f && (is_clear (join e f) && goes_on e f)

-- the edges of one contour in their order, from an edge on, with those joined that can be. The first and the last edge
-- of the contour are not joined
abbrev pub joined_from : Edge → List Edge → List Edge
joined_from e [] = e ∷ []
joined_from e (f ∷ fs) = if joins e f then joined_from (join e f) fs else e ∷ joined_from f fs

abbrev pub joined : List Edge → List Edge
joined [] = []
joined (e ∷ es) = joined_from e es

-- worked values: the first line is at 4096, and the line before it at -4096
line : ℤ → ℤ → Bool
line a b = meets_none a b

between_two_lines : line (pos 4095) (negsuc 4094) ≡ true
unfolding line
between_two_lines = refl

an_end_on_the_line : line (pos 4096) (pos 5000) ≡ false
unfolding line
an_end_on_the_line = refl

the_other_end_on_the_line : line (pos 5000) (pos 4096) ≡ false
unfolding line
the_other_end_on_the_line = refl

an_end_on_the_line_below : line (pos 0) (negsuc 4095) ≡ false
unfolding line
an_end_on_the_line_below = refl

one_each_side : line (pos 4095) (pos 4097) ≡ false
unfolding line
one_each_side = refl

a_whole_pixel_apart : line (pos 100) (pos 8292) ≡ false
unfolding line
a_whole_pixel_apart = refl

edge : ℤ → ℤ → ℤ → ℤ → Edge
edge ax ay bx by = record { ax = ax; ay = ay; bx = bx; by = by }

-- three edges that meet no line, and rise to the right
three_are_one : joined (edge (pos 0) (pos 0) (pos 5) (pos 1) ∷ edge (pos 5) (pos 1) (pos 9) (pos 9)
    ∷ edge (pos 9) (pos 9) (pos 10) (pos 40) ∷ []) ≡ edge (pos 0) (pos 0) (pos 10) (pos 40) ∷ []
unfolding edge
three_are_one = refl

-- the second edge turns back along y
a_turning_point_remains : joined (edge (pos 0) (pos 0) (pos 5) (pos 9) ∷ edge (pos 5) (pos 9) (pos 9) (pos 8) ∷ [])
    ≡ edge (pos 0) (pos 0) (pos 5) (pos 9) ∷ edge (pos 5) (pos 9) (pos 9) (pos 8) ∷ []
unfolding edge
a_turning_point_remains = refl

-- the second edge meets a line of columns at 4096, and the third begins there
an_edge_that_meets_a_column_remains : joined (edge (pos 0) (pos 0) (pos 4000) (pos 1) ∷ edge (pos 4000) (pos 1) (pos 4096) (pos 2)
    ∷ edge (pos 4096) (pos 2) (pos 4100) (pos 3) ∷ edge (pos 4100) (pos 3) (pos 4200) (pos 4) ∷ [])
    ≡ edge (pos 0) (pos 0) (pos 4000) (pos 1) ∷ edge (pos 4000) (pos 1) (pos 4096) (pos 2)
    ∷ edge (pos 4096) (pos 2) (pos 4100) (pos 3) ∷ edge (pos 4100) (pos 3) (pos 4200) (pos 4) ∷ []
unfolding edge
an_edge_that_meets_a_column_remains = refl

-- the same along y, below 0: the line of rows is at -4096
an_edge_that_meets_a_row_remains : joined (edge (pos 0) (negsuc 4000) (pos 1) (negsuc 4090) ∷ edge (pos 1) (negsuc 4090) (pos 2) (negsuc 4200)
    ∷ edge (pos 2) (negsuc 4200) (pos 3) (negsuc 4300) ∷ edge (pos 3) (negsuc 4300) (pos 4) (negsuc 4301) ∷ [])
    ≡ edge (pos 0) (negsuc 4000) (pos 1) (negsuc 4090) ∷ edge (pos 1) (negsuc 4090) (pos 2) (negsuc 4200)
    ∷ edge (pos 2) (negsuc 4200) (pos 4) (negsuc 4301) ∷ []
unfolding edge
an_edge_that_meets_a_row_remains = refl

-- a corner within a pixel is cut
a_level_and_an_upright_edge_are_one : joined (edge (pos 0) (pos 0) (pos 7) (pos 0) ∷ edge (pos 7) (pos 0) (pos 7) (pos 7) ∷ [])
    ≡ edge (pos 0) (pos 0) (pos 7) (pos 7) ∷ []
unfolding edge
a_level_and_an_upright_edge_are_one = refl

-- the second edge begins elsewhere
apart_they_remain : joined (edge (pos 0) (pos 0) (pos 5) (pos 1) ∷ edge (pos 4) (pos 1) (pos 9) (pos 9) ∷ [])
    ≡ edge (pos 0) (pos 0) (pos 5) (pos 1) ∷ edge (pos 4) (pos 1) (pos 9) (pos 9) ∷ []
unfolding edge
apart_they_remain = refl

none_joins_to_none : joined [] ≡ []
none_joins_to_none = refl
