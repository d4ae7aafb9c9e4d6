-- No part of the standard: the least box that holds the black pixels of a glyph. A column counts rightwards from the
-- glyph's pen, a line counts pixel rows upwards from the base line.
use Rattle.std.specs.Prelude.{◌≡◌, refl, ℕ, zero, suc, ◌+◌, Bool, ◌&&◌, if◌then◌else◌, ℤ, pos, negsuc, ◌+ℤ◌, ◌-ℤ◌, unsigned_abs, List, [], ◌∷◌, map, Option, Some, None}
use Rattle.std.specs.Ordering.{int_eq}
use Rattle.tt_scan_edges.specs.Winding.{is_black}
use Rattle.tt_scan_edges.specs.declared.edge.Edge.{Edge}
use Rattle.tt_scan_gaps.specs.Crossings.{centre}
use Rattle.tt_scan_gaps.specs.Boxes.{columns_of}
use Rattle.tt_scan_gaps.specs.Seen.{turned_round}
use Rattle.tt_scan_dropouts.specs.Dropouts.{columns_of_rules, is_dropout, rows_of_rules}
use Rattle.tt_scan_gaps.specs.declared.mark.Columns.{Columns}
use Rattle.tt_scan_dropouts.specs.declared.boxed.BoxedRules.{BoxedRules}
use Rattle.tt_bitmap.specs.Inks.{joined}
use Rattle.tt_bitmap.specs.declared.ink.LeastBox.{LeastBox}

-- the box of one pixel
abbrev pub pixel_box : ℤ → ℤ → LeastBox
pixel_box c j = record { left = c; bottom = j; right = c; top = j }

-- the box of the black pixels among a number of pixels of a line, from column c on
abbrev pub line_ink : (ℤ → ℤ → Bool) → ℤ → ℤ → ℕ → Option LeastBox
line_ink black j c zero = None
line_ink black j c (suc n) =
    joined (if black c j then Some (pixel_box c j) else None) (line_ink black j (c +ℤ pos 1) n)

-- how many numbers there are from a first to a last
abbrev pub count_of : Columns → ℕ
count_of b = unsigned_abs (b.last -ℤ b.first) + 1

-- the box of the black pixels in some columns of a number of lines, from line j on
abbrev pub lines_ink : (ℤ → ℤ → Bool) → Columns → ℤ → ℕ → Option LeastBox
lines_ink black columns j zero = None
lines_ink black columns j (suc n) =
    joined (line_ink black j columns.first (count_of columns)) (lines_ink black columns (j +ℤ pos 1) n)

-- the box of the black pixels in some columns and rows
unfoldable pub ink_in : (ℤ → ℤ → Bool) → Columns → Columns → Option LeastBox
ink_in black columns rows = lines_ink black columns rows.first (count_of rows)

-- the box of what edges blacken, which is sought in the box of the edges
abbrev pub edges_ink : List Edge → Option LeastBox
edges_ink es =
    ink_in (λ c j. is_black es (centre c) (centre j)) (columns_of es) (columns_of (map turned_round es))

-- the box of the dropouts of contours, which is sought in the glyph's box, and next to it where dots are drawn
abbrev pub dropouts_ink : BoxedRules → List (List Edge) → Option LeastBox
dropouts_ink rules contours = ink_in (is_dropout rules contours) (columns_of_rules rules) (rows_of_rules rules)

-- worked values: two pixels, and a pixel outside the columns and rows of the search
two_and_one : ℤ → ℤ → Bool
two_and_one c j = if int_eq c (pos 1) then int_eq j (pos 2) else (if int_eq c (negsuc 0) then int_eq j (pos 0)
    else (int_eq c (pos 7) && int_eq j (pos 7)))

numbers : ℤ → ℤ → Columns
numbers first last = record { first = first; last = last }

their_box : ink_in two_and_one (numbers (negsuc 2) (pos 1)) (numbers (pos 0) (pos 3))
    ≡ Some (record { left = negsuc 0; bottom = pos 0; right = pos 1; top = pos 2 })
unfolding ink_in two_and_one numbers
their_box = refl

of_one_of_them : ink_in two_and_one (numbers (pos 0) (pos 4)) (numbers (negsuc 0) (pos 2))
    ≡ Some (pixel_box (pos 1) (pos 2))
unfolding ink_in two_and_one numbers
of_one_of_them = refl

of_none : ink_in two_and_one (numbers (pos 2) (pos 5)) (numbers (pos 0) (pos 9)) ≡ None
unfolding ink_in two_and_one numbers
of_none = refl

-- an upright edge through the centres of lines 0 and 1, one column right of the pen
upright : List Edge
upright = record { ax = pos 12288; ay = pos 0; bx = pos 12288; by = pos 16384 } ∷ []

the_box_of_an_edge : edges_ink upright ≡ Some (record { left = pos 1; bottom = pos 0; right = pos 1; top = pos 1 })
unfolding ink_in upright
the_box_of_an_edge = refl
