-- No part of the standard: the columns and the lines that the black pixels of a glyph may lie in, and the limits of a
-- bitmap (profile).
use Rattle.std.specs.Prelude.{◌≡◌, ◌⊎◌, refl, ℕ, ◌+◌, ◌*◌, ◌<◌, Bool, true, false, pos, negsuc, ◌-ℤ◌, unsigned_abs, Option, Some, None}
use Rattle.tt_bitmap.specs.Bitmaps.{strips}
use Rattle.tt_core.specs.Limits.{height_limit, width_limit}
use Rattle.tt_scan_dropouts.specs.declared.boxed.BoxedRules.{BoxedRules}
use Rattle.tt_scan_dropouts.specs.declared.window.Window.{Window}
use Rattle.tt_scan_gaps.specs.Boxes.{columns_reached, rows_reached}
use Rattle.tt_scan_gaps.specs.declared.extent.Extents.{Extents}
use Rattle.tt_scan_gaps.specs.declared.mark.Columns.{Columns}

-- dots are drawn: dropouts are filled, by rules with dots
abbrev pub draws_dots : Option BoxedRules → Bool
draws_dots None = false
draws_dots (Some rules) = rules.rules.dots

-- the columns and the lines that the black pixels of a glyph may lie in, by its box
abbrev pub columns_by : Extents → Option BoxedRules → Columns
columns_by b filled = columns_reached (draws_dots filled) b

abbrev pub rows_by : Extents → Option BoxedRules → Columns
rows_by b filled = rows_reached (draws_dots filled) b

-- how many numbers there are from a first to a last
abbrev pub count_of : Columns → ℕ
count_of b = unsigned_abs (b.last -ℤ b.first) + 1

-- the window of some columns and lines
abbrev pub window_by : Columns → Columns → Window
window_by columns rows = record {
  left = columns.first;
  bottom = rows.first;
  width = count_of columns;
  height = count_of rows;
}

-- the bytes of their bitmap: eight for each 56 columns of a line
abbrev pub bytes_by : Columns → Columns → ℕ
bytes_by columns rows = 8 * (strips (count_of columns) * count_of rows)

-- they are more columns or lines than those of the greatest picture, or their bitmap takes more bytes than a limit
abbrev pub IsLarge : ℕ → Columns → Columns → Type 0
IsLarge most columns rows =
    (width_limit < count_of columns) ⊎ ((height_limit < count_of rows) ⊎ (most < bytes_by columns rows))

-- worked values: a box from the middle of column -1 to that of column 1, and from the base line to the middle of line 0
small_box : Extents
small_box = record { across = record { low = negsuc 4095; high = pos 12288 }; up = record { low = pos 0; high = pos 4096 } }

by_rules : Bool → Option BoxedRules
by_rules dots = Some (record { rules = record { stubs = true; smart = true; dots = dots }; extents = small_box })

its_own_columns_without_dropouts : columns_by small_box None ≡ record { first = negsuc 0; last = pos 1 }
unfolding small_box
its_own_columns_without_dropouts = refl

the_same_with_dropouts : columns_by small_box (by_rules false) ≡ record { first = negsuc 0; last = pos 1 }
unfolding small_box by_rules
the_same_with_dropouts = refl

a_column_more_on_each_side_with_dots : columns_by small_box (by_rules true) ≡ record { first = negsuc 1; last = pos 2 }
unfolding small_box by_rules
a_column_more_on_each_side_with_dots = refl

its_line_without_dropouts : rows_by small_box None ≡ record { first = pos 0; last = pos 0 }
unfolding small_box
its_line_without_dropouts = refl

a_line_more_above_and_below_with_dots : rows_by small_box (by_rules true) ≡ record { first = negsuc 0; last = pos 1 }
unfolding small_box by_rules
a_line_more_above_and_below_with_dots = refl

-- 57 columns from column -2 on, and the two lines at the base line
columns_57 : Columns
columns_57 = record { first = negsuc 1; last = pos 54 }

lines_2 : Columns
lines_2 = record { first = negsuc 0; last = pos 0 }

their_window : window_by columns_57 lines_2 ≡ record { left = negsuc 1; bottom = negsuc 0; width = 57; height = 2 }
unfolding columns_57 lines_2
their_window = refl

two_words_a_line : bytes_by columns_57 lines_2 ≡ 32
unfolding columns_57 lines_2
two_words_a_line = refl

one_column_less : bytes_by (record { first = negsuc 1; last = pos 53 }) lines_2 ≡ 16
unfolding lines_2
one_column_less = refl
