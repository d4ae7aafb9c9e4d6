-- No part of the standard: the ink of a line in its picture, as the least box of the black pixels, those outside the
-- picture too.
use Rattle.std.specs.Prelude.{◌≡◌, refl, ℕ, ◌+◌, ℤ, pos, negsuc, ◌+ℤ◌, ◌-ℤ◌, List, [], ◌∷◌, Option, Some, None, Result, Ok, Err}
use Rattle.std.specs.Int.{int_max, int_min}
use Rattle.tt_core.specs.Faults.{Fault}
use Rattle.tt_fit.specs.Fitting.{Fitter, fitted_outline}
use Rattle.tt_fit.specs.outline.Outline.{Outline}
use Rattle.tt_scan_edges.specs.declared.edge.Edge.{Edge}
use Rattle.tt_scan_edges.specs.declared.edge.Frame.{Frame}
use Rattle.tt_scan_dropouts.specs.declared.boxed.BoxedRules.{BoxedRules}
use Rattle.tt_bitmap.specs.Inks as ink
use Rattle.tt_scan_ink.specs.Ink.{dropouts_ink, edges_ink}
use Rattle.tt_bitmap.specs.declared.ink.LeastBox.{LeastBox}
use Rattle.tt_picture.specs.Shapes.{chords_with, contours_of, edges_at, filled_by}
use Rattle.tt_picture.specs.declared.ink_box.InkBox.{InkBox}

-- the box of a glyph's dropouts, if they are filled
abbrev pub filled_ink : Option BoxedRules → List (List Edge) → Option LeastBox
filled_ink None contours = None
filled_ink (Some rules) contours = dropouts_ink rules contours

-- the box of all black pixels of a glyph
abbrev pub ink_by : List Edge → List (List Edge) → Option BoxedRules → Option LeastBox
ink_by es contours filled = ink.joined (edges_ink es) (filled_ink filled contours)

-- the box at pen 0, by its fitter; a glyph without an outline has none
abbrev pub outline_ink : Fitter → ℕ → Result Outline Fault → Option LeastBox
outline_ink s g (Ok o) = ink_by (edges_at (chords_with s) 0 o) (contours_of (chords_with s) 0 o) (filled_by s g o)
outline_ink s g (Err fault) = None

unfoldable pub glyph_ink : Fitter → ℕ → Option LeastBox
glyph_ink s g = outline_ink s g (fitted_outline s g)

-- the column and the row of a picture for column c and line j from a pen
abbrev pub column_of : Frame → ℕ → ℤ → ℤ
column_of f pen c = c +ℤ pos (pen + f.margin)

abbrev pub row_of : Frame → ℤ → ℤ
row_of f j = ((f.rise +ℤ pos f.margin) -ℤ pos 1) -ℤ j

-- the box of a glyph's ink at a pen in a picture
abbrev pub box_at : Frame → ℕ → LeastBox → InkBox
box_at f pen b = record {
  left = column_of f pen b.left;
  top = row_of f b.top;
  right = column_of f pen b.right;
  bottom = row_of f b.bottom;
}

abbrev pub ink_at : Frame → ℕ → Option LeastBox → Option InkBox
ink_at f pen None = None
ink_at f pen (Some b) = Some (box_at f pen b)

-- the least box that holds two
abbrev pub joined_boxes : InkBox → InkBox → InkBox
joined_boxes a b = record
    { left = int_min a.left b.left; top = int_min a.top b.top; right = int_max a.right b.right; bottom = int_max a.bottom b.bottom }

abbrev pub joined : Option InkBox → Option InkBox → Option InkBox
joined None b = b
joined (Some a) None = Some a
joined (Some a) (Some b) = Some (joined_boxes a b)

-- the least box that holds a first box and those of a list, as far as they exist
abbrev pub all_joined : Option InkBox → List (Option InkBox) → Option InkBox
all_joined so_far [] = so_far
all_joined so_far (b ∷ bs) = all_joined (joined so_far b) bs

-- worked values: a picture of five rows, whose base line is under the third, with a margin of one pixel
five_rows : Frame
five_rows = record { width = 9; height = 5; margin = 1; rise = pos 2 }

-- two columns and three lines, the lowest of which is below the base line
two_by_three : LeastBox
two_by_three = record { left = negsuc 0; bottom = negsuc 0; right = pos 0; top = pos 1 }

at_pen_four : box_at five_rows 4 two_by_three ≡ record { left = pos 4; top = pos 1; right = pos 5; bottom = pos 3 }
unfolding five_rows two_by_three
at_pen_four = refl

cut_on_the_left : all_joined None (None ∷ ink_at five_rows 4 (Some two_by_three) ∷ Some (record { left = negsuc 1; top = pos 2; right = pos 0; bottom = pos 2 }) ∷ [])
    ≡ Some (record { left = negsuc 1; top = pos 1; right = pos 5; bottom = pos 3 })
unfolding five_rows two_by_three
cut_on_the_left = refl
