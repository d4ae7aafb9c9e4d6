-- The part of a window that lies in a box. A glyph's dropouts need be sought in its box alone.
use Rattle.std.proofs.Common.{◌≡◌, refl, sym, ◌∙◌, ℕ, ◌+◌, ◌≤◌, Bool, true, false, ◌&&◌, List, arith}
use Rattle.std.specs.Prelude.{ℤ, pos, ◌+ℤ◌, ◌-ℤ◌, ◌≤ℤ◌, ◌<ℤ◌, int_le, int_lt, unsigned_abs}
use Rattle.std.specs.Int.{int_max, int_min}
use Rattle.std.proofs.lemmas.Int.{clamps, ints}
use Rattle.tt_scan_edges.specs.declared.edge.Edge.{Edge}
use Rattle.tt_scan_gaps.specs.Boxes.{ColumnsNear, HoldsEdges, is_column_of}
use Rattle.tt_scan_dropouts.specs.Dropouts.{columns_of_rules, edges_of, is_dropout, rows_of_rules}
use Rattle.tt_scan_dropouts.specs.Windows.{IsPart, WindowFits, WindowNear, box_has, has, is_within, widened}
use Rattle.tt_scan_gaps.specs.declared.mark.Columns.{Columns}
use Rattle.tt_scan_dropouts.specs.declared.boxed.BoxedRules.{BoxedRules}
use Rattle.tt_scan_dropouts.specs.declared.window.Part.{Part}
use Rattle.tt_scan_dropouts.specs.declared.window.Window.{Window}
use Rattle.tt_scan_dropouts.proofs.InBox.{LiesInBox}
use Rattle.tt_scan_dropouts.proofs.Reached.{dropout_reached}

-- numbers from one up to another

from_the_later : (a b n : ℤ) → int_le (int_max a b) n ≡ (int_le a n && int_le b n)
from_the_later a b n = grind (arith, ints)

up_to_the_earlier : (a b n : ℤ) → int_lt n (int_min a (b +ℤ pos 1)) ≡ (int_lt n a && int_le n b)
up_to_the_earlier a b n = grind (arith, ints)

swapped : (a b c d : Bool) → ((a && b) && (c && d)) ≡ ((a && c) && (b && d))
swapped true true c d = refl
swapped true false true d = refl
swapped true false false d = refl
swapped false b c d = refl

-- the first number of a range that may be a column of a box, and one past the last
pub record AreEndsOf (first : ℤ) (count : ℕ) (b : Columns) (from end : ℤ) : Type 0 where
  pub start : from ≡ int_max first b.first
  pub stop : end ≡ int_min (first +ℤ pos count) (b.last +ℤ pos 1)

both_ends : (first : ℤ) (count : ℕ) (b : Columns) (from end n : ℤ) → AreEndsOf first count b from end
    → (int_le from n && int_lt n end) ≡ (is_within first count n && is_column_of b n)
both_ends first count b from end n h =
    rw (h.start, h.stop, from_the_later first b.first n, up_to_the_earlier (first +ℤ pos count) b.last n)
    (swapped (int_le first n) (int_le b.first n) (int_lt n (first +ℤ pos count)) (int_le n b.last))

counted : (from end n : ℤ) → from <ℤ end
    → is_within from (unsigned_abs (end -ℤ from)) n ≡ (int_le from n && int_lt n end)
counted from end n order =
    let whole : from +ℤ pos (unsigned_abs (end -ℤ from)) ≡ end = omega (arith, ints) in rw whole refl

pub overlap_is : (first : ℤ) (count : ℕ) (b : Columns) (from end : ℤ) → AreEndsOf first count b from end → from <ℤ end
    → (n : ℤ) → is_within from (unsigned_abs (end -ℤ from)) n ≡ (is_within first count n && is_column_of b n)
overlap_is first count b from end h order n = counted from end n order ∙ both_ends first count b from end n h

pub overlap_part : (first : ℤ) (count : ℕ) (b : Columns) (from end : ℤ) → AreEndsOf first count b from end → from <ℤ end
    → IsPart first count b (record { from = from; count = unsigned_abs (end -ℤ from) })
overlap_part first count b from end h order =
    let start = h.start in
    let stop = h.stop in
    record {
      some = omega (arith, ints, order);
      within = omega (arith, ints, clamps, start);
      last = omega (arith, ints, clamps, order, stop);
      low = omega (arith, ints, clamps, start);
      near = omega (arith, ints, start);
      high = omega (arith, ints, clamps, order, stop);
    }

none_from : (from end n : ℤ) → end ≤ℤ from → (int_le from n && int_lt n end) ≡ false
none_from from end n order = grind (arith, ints)

pub overlap_none : (first : ℤ) (count : ℕ) (b : Columns) (from end : ℤ) → AreEndsOf first count b from end → end ≤ℤ from
    → (n : ℤ) → (is_within first count n && is_column_of b n) ≡ false
overlap_none first count b from end h order n = sym (both_ends first count b from end n h) ∙ none_from from end n order

-- a window of parts

pub parts_are : (w : Window) (columns rows : Columns) (across up : Part)
    → ((n : ℤ) → is_within across.from across.count n ≡ (is_within w.left w.width n && is_column_of columns n))
    → ((n : ℤ) → is_within up.from up.count n ≡ (is_within w.bottom w.height n && is_column_of rows n))
    → (c j : ℤ) → has (record { left = across.from; bottom = up.from; width = across.count; height = up.count }) c j
    ≡ (has w c j && box_has columns rows c j)
parts_are w columns rows across up is also c j =
    rw (is c, also j)
    (swapped (is_within w.left w.width c) (is_column_of columns c) (is_within w.bottom w.height j)
    (is_column_of rows j))

pub parts_near : (w : Window) (columns rows : Columns) (across up : Part) → ColumnsNear columns → ColumnsNear rows
    → IsPart w.left w.width columns across → IsPart w.bottom w.height rows up
    → WindowNear (record { left = across.from; bottom = up.from; width = across.count; height = up.count })
parts_near w columns rows across up column row is also = record {
  left = omega (arith, ints, column.first, column.last, is.within, is.last, is.some);
  bottom = omega (arith, ints, row.first, row.last, also.within, also.last, also.some);
  top = omega (arith, ints, row.first, row.last, also.within, also.last, also.some);
  width = omega (arith, ints, column.first, column.last, is.within, is.last);
  some = also.some;
}

-- a few rows of a window near the origin
pub band_fits : (w : Window) (done height : ℕ) → WindowNear w → 1 ≤ height → height ≤ 2048 → done + height ≤ w.height
    → WindowFits (widened 5 (record { left = w.left; bottom = w.bottom +ℤ pos done; width = w.width; height = height }))
band_fits w done height near some few within = record {
  left = omega (arith, ints, near.left);
  bottom = omega (arith, ints, near.bottom, near.top, within);
  top = omega (arith, ints, near.bottom, near.top, within);
  width = omega (arith, near.width);
  low = omega arith;
  high = omega (arith, few);
}

pub part_fits : (w : Window) → WindowNear w → w.height ≤ 2048 → WindowFits (widened 5 w)
part_fits w near few = record {
  left = omega (arith, ints, near.left);
  bottom = omega (arith, ints, near.bottom);
  top = omega (arith, ints, near.top);
  width = omega (arith, near.width);
  low = omega arith;
  high = omega (arith, few);
}

pub no_columns : (w : Window) (columns rows : Columns)
    → ((n : ℤ) → (is_within w.left w.width n && is_column_of columns n) ≡ false)
    → (c j : ℤ) → (has w c j && box_has columns rows c j) ≡ false
no_columns w columns rows none c j = let here = none c in grind (arith, here)

pub no_rows : (w : Window) (columns rows : Columns)
    → ((n : ℤ) → (is_within w.bottom w.height n && is_column_of rows n) ≡ false)
    → (c j : ℤ) → (has w c j && box_has columns rows c j) ≡ false
no_rows w columns rows none c j = let here = none j in grind (arith, here)

-- a window cut to a glyph's box: the dropouts in it are those of the whole window

pub box_has_it : (columns rows : Columns) (c j : ℤ) → LiesInBox columns rows c j → box_has columns rows c j ≡ true
box_has_it columns rows c j h =
    let first : int_le columns.first c ≡ true = grind (arith, ints, h.column.first) in
    let last : int_le c columns.last ≡ true = grind (arith, ints, h.column.last) in
    let bottom : int_le rows.first j ≡ true = grind (arith, ints, h.row.first) in
    let top : int_le j rows.last ≡ true = grind (arith, ints, h.row.last) in
    rw (first, last, bottom, top) refl

cut_alike : (cut window box is : Bool) → cut ≡ (window && box) → (is ≡ true → box ≡ true) → (cut && is) ≡ (window && is)
cut_alike cut window box is cuts within = grind (arith, cuts, within)

cut_away : (window box is : Bool) → (window && box) ≡ false → (is ≡ true → box ≡ true) → (window && is) ≡ false
cut_away window box is cuts within = grind (arith, cuts, within)

pub dropout_boxed : (rules : BoxedRules) (contours : List (List Edge)) (c j : ℤ) → HoldsEdges rules.extents (edges_of contours)
    → is_dropout rules contours c j ≡ true → box_has (columns_of_rules rules) (rows_of_rules rules) c j ≡ true
dropout_boxed rules contours c j held is =
    box_has_it (columns_of_rules rules) (rows_of_rules rules) c j (dropout_reached rules contours c j held is)

pub clipped_alike : (rules : BoxedRules) (contours : List (List Edge)) (window w : Window) (c j : ℤ)
    → HoldsEdges rules.extents (edges_of contours)
    → has w c j ≡ (has window c j && box_has (columns_of_rules rules) (rows_of_rules rules) c j)
    → (has w c j && is_dropout rules contours c j) ≡ (has window c j && is_dropout rules contours c j)
clipped_alike rules contours window w c j held cuts =
    cut_alike (has w c j) (has window c j) (box_has (columns_of_rules rules) (rows_of_rules rules) c j)
    (is_dropout rules contours c j) cuts (dropout_boxed rules contours c j held)

pub clipped_away : (rules : BoxedRules) (contours : List (List Edge)) (window : Window) (c j : ℤ)
    → HoldsEdges rules.extents (edges_of contours)
    → (has window c j && box_has (columns_of_rules rules) (rows_of_rules rules) c j) ≡ false
    → (has window c j && is_dropout rules contours c j) ≡ false
clipped_away rules contours window c j held cuts =
    cut_away (has window c j) (box_has (columns_of_rules rules) (rows_of_rules rules) c j)
    (is_dropout rules contours c j) cuts (dropout_boxed rules contours c j held)
