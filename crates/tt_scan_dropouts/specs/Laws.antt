-- Lemmas about the definitions: dropouts are white without them, and move with their glyph. No gap that needs a pixel
-- stays white, and no dot is lost. A free gap is crossed both ways or not at all. What a glyph needs is at most what it
-- counts, and it counts the same at each pen.
use Rattle.std.specs.Prelude.{◌≡◌, refl, ℕ, ◌/◌, ◌<◌, ◌≤◌, Bool, true, false, ◌||◌, ℤ, pos, ◌+ℤ◌, ◌*ℤ◌, All, List, [], ◌∷◌, get_or, length, map, Some}
use Rattle.std.specs.List.{range_with_len, sum_by}
use Rattle.tt_scan.specs.Contours.{IsClosed}
use Rattle.tt_scan_edges.specs.Winding.{crossings_of, is_black}
use Rattle.tt_scan_edges.specs.declared.edge.Edge.{Edge}
use Rattle.tt_scan_edges.specs.declared.edge.Frame.{Frame}
use Rattle.tt_scan_dropouts.specs.Counted.{bands, bitmap_bytes, edges_counted, extent_columns, extent_rows, filling_counted, rows_of_band}
use Rattle.tt_scan_gaps.specs.BothWays.{crosses_gap}
use Rattle.tt_scan_gaps.specs.Boxes.{HoldsEdges}
use Rattle.tt_scan_gaps.specs.Crossings.{centre}
use Rattle.tt_scan_gaps.specs.Dots.{asks, ends_box, is_dot_box, middle}
use Rattle.tt_scan_dropouts.specs.Dropouts.{columns_of_rules, edges_of, is_added_by_columns, is_added_by_rows, is_dropout, is_inked, outline_turned, row_adds, rows_of_rules}
use Rattle.tt_scan_dropouts.specs.Windows.{box_has}
use Rattle.tt_scan_gaps.specs.Gaps.{gap_marks, is_free, some_asks}
use Rattle.tt_scan_gaps.specs.Walk.{marks}
use Rattle.tt_scan_gaps.specs.declared.extent.Extent.{Extent}
use Rattle.tt_scan_gaps.specs.declared.extent.Extents.{Extents}
use Rattle.tt_scan_dropouts.specs.declared.boxed.BoxedRules.{BoxedRules}

-- a pixel that the rows add is white by rules 1 and 2
abbrev pub AddedByRowsWasWhite : Type 0
AddedByRowsWasWhite = (rules : BoxedRules) (contours : List (List Edge)) (c j : ℤ)
    → is_added_by_rows rules contours c j ≡ true → is_inked contours c j ≡ false

-- a pixel that the columns add is white by rules 1 and 2, and the rows do not add it
abbrev pub AddedByColumnsWasWhite : Type 0
AddedByColumnsWasWhite = (rules : BoxedRules) (contours : List (List Edge)) (c j : ℤ)
    → is_added_by_columns rules contours c j ≡ true
    → (is_inked contours c j ≡ false) × (is_added_by_rows rules contours c j ≡ false)

-- a dropout is white by rules 1 and 2
abbrev pub DropoutWasWhite : Type 0
DropoutWasWhite = (rules : BoxedRules) (contours : List (List Edge)) (c j : ℤ)
    → is_dropout rules contours c j ≡ true → is_inked contours c j ≡ false

-- an edge moved k pixels to the right and m up
abbrev pub moved : ℤ → ℤ → Edge → Edge
moved k m e = record {
  ax = e.ax +ℤ pos 8192 *ℤ k;
  ay = e.ay +ℤ pos 8192 *ℤ m;
  bx = e.bx +ℤ pos 8192 *ℤ k;
  by = e.by +ℤ pos 8192 *ℤ m;
}

abbrev pub outline_moved : ℤ → ℤ → List (List Edge) → List (List Edge)
outline_moved k m contours = map (map (moved k m)) contours

-- an extent moved k pixels, and a box moved k pixels to the right and m up
abbrev pub extent_moved : ℤ → Extent → Extent
extent_moved k e = record { low = e.low +ℤ pos 8192 *ℤ k; high = e.high +ℤ pos 8192 *ℤ k }

abbrev pub extents_moved : ℤ → ℤ → Extents → Extents
extents_moved k m b = record { across = extent_moved k b.across; up = extent_moved m b.up }

abbrev pub rules_moved : ℤ → ℤ → BoxedRules → BoxedRules
rules_moved k m rules = record { rules = rules.rules; extents = extents_moved k m rules.extents }

-- an outline moved by whole pixels with its box has its dropouts moved by as much
abbrev pub DropoutsMoved : Type 0
DropoutsMoved = (rules : BoxedRules) (contours : List (List Edge)) (k m c j : ℤ)
    → is_dropout (rules_moved k m rules) (outline_moved k m contours) (c +ℤ k) (j +ℤ m) ≡ is_dropout rules contours c j

-- a dropout lies in the glyph's box, where the box holds the edges. A dot may lie in the next column or row
abbrev pub DropoutsLieInBox : Type 0
DropoutsLieInBox = (rules : BoxedRules) (contours : List (List Edge)) (c j : ℤ) → HoldsEdges rules.extents (edges_of contours)
    → is_dropout rules contours c j ≡ true
    → box_has (columns_of_rules rules) (rows_of_rules rules) c j ≡ true

-- a pass over rows leaves no gap white that needs a pixel, whatever is black before: one of the gap's two pixels is
-- added. With x and y exchanged this holds of columns
abbrev pub NoGapStaysWhite : Type 0
NoGapStaysWhite = (rules : BoxedRules) (contours : List (List Edge)) (black : ℤ → ℤ → Bool) (c j : ℤ)
    → is_free black c j ≡ true → some_asks (gap_marks (marks rules.rules.stubs contours) j c) ≡ true
    → (row_adds rules contours black c j || row_adds rules contours black (c +ℤ pos 1) j) ≡ true

-- no dot is lost: a contour with the box of a dot needs a pixel, or the pixel that holds its middle is black
abbrev pub NoDotIsLost : Type 0
NoDotIsLost = (rules : BoxedRules) (contours : List (List Edge)) (k : ℕ) (d : List Edge) (b : Extents)
    → rules.rules.dots ≡ true → k < length contours → ends_box (get_or contours k d) ≡ Some b → is_dot_box b ≡ true
    → asks rules.rules.stubs (get_or contours k d) ≡ false
    → (is_inked contours (middle b.across) (middle b.up) || is_dropout rules contours (middle b.across) (middle b.up)) ≡ true

-- some edge rises through a free gap of a row if and only if one falls through it, whatever the edges
abbrev pub RowsCrossedBothWays : Type 0
RowsCrossedBothWays = (es : List Edge) (c j : ℤ) → is_free (λ c j. is_black es (centre c) (centre j)) c j ≡ true
    → crosses_gap true es j c ≡ crosses_gap false es j c

-- where all contours are closed, a free gap of a column has this too: the gap above the pixel of column c and row j
abbrev pub ColumnsCrossedBothWays : Type 0
ColumnsCrossedBothWays = (contours : List (List Edge)) (c j : ℤ) → All IsClosed contours
    → is_free (λ j c. is_inked contours c j) j c ≡ true
    → crosses_gap true (edges_of (outline_turned contours)) c j
    ≡ crosses_gap false (edges_of (outline_turned contours)) c j

-- the rows of a frame need no more crossings of some edges than these count, whatever the frame
abbrev pub RowsAreCounted : Type 0
RowsAreCounted = (f : Frame) (es : List Edge) → crossings_of f es ≤ edges_counted es

-- the bitmap of a part of a glyph's box is counted, and so are the bitmaps of all bands
abbrev pub BitmapIsCounted : Type 0
BitmapIsCounted = (b : Extents) (es : List Edge) (columns rows : ℕ) → columns ≤ extent_columns b → rows ≤ extent_rows b
    → bitmap_bytes columns rows / 64 ≤ filling_counted b es

abbrev pub BandsAreCounted : Type 0
BandsAreCounted = (b : Extents) (es : List Edge) (columns : ℕ) → columns ≤ extent_columns b
    → sum_by (λ k. bitmap_bytes columns (rows_of_band (extent_rows b) k)) (range_with_len 0 (bands (extent_rows b))) / 64
    ≤ filling_counted b es

-- edges moved by whole pixels count the same
abbrev pub CountsStay : Type 0
CountsStay = (k m : ℤ) (b : Extents) (es : List Edge) → (edges_counted (map (moved k m) es) ≡ edges_counted es)
    × (filling_counted (extents_moved k m b) (map (moved k m) es) ≡ filling_counted b es)

-- worked values: a stem from below row 0 to above it, between the centres of columns 0 and 1
stem : List Edge
stem = record { ax = pos 5000; ay = pos 0; bx = pos 5000; by = pos 8192 }
    ∷ record { ax = pos 5000; ay = pos 8192; bx = pos 6000; by = pos 8192 }
    ∷ record { ax = pos 6000; ay = pos 8192; bx = pos 6000; by = pos 0 }
    ∷ record { ax = pos 6000; ay = pos 0; bx = pos 5000; by = pos 0 } ∷ []

stem_is_closed : IsClosed stem
unfolding stem
stem_is_closed = ((refl, refl), ((refl, refl), ((refl, refl), (refl, refl))))

its_gap_is_free : is_free (λ c j. is_black stem (centre c) (centre j)) (pos 0) (pos 0) ≡ true
unfolding stem
its_gap_is_free = refl

one_side_rises : crosses_gap true stem (pos 0) (pos 0) ≡ true
unfolding stem
one_side_rises = refl

the_other_falls : crosses_gap false stem (pos 0) (pos 0) ≡ true
unfolding stem
the_other_falls = refl

no_other_gap_is_crossed : crosses_gap true stem (pos 0) (pos 1) ≡ false
unfolding stem
no_other_gap_is_crossed = refl

-- a level edge alone, between the centres of rows 0 and 1, is not closed: it goes through a free gap of a column, and
-- no edge goes back
stroke : List (List Edge)
stroke = (record { ax = pos 0; ay = pos 8000; bx = pos 8192; by = pos 8000 } ∷ []) ∷ []

its_gap_is_free_too : is_free (λ j c. is_inked stroke c j) (pos 0) (pos 0) ≡ true
unfolding stroke
its_gap_is_free_too = refl

it_rises_through : crosses_gap true (edges_of (outline_turned stroke)) (pos 0) (pos 0) ≡ true
unfolding stroke
it_rises_through = refl

none_falls : crosses_gap false (edges_of (outline_turned stroke)) (pos 0) (pos 0) ≡ false
unfolding stroke
none_falls = refl
