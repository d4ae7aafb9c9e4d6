-- No part of the standard: what the edges of one glyph count where a job's work is bounded (profile). The count does
-- not know the picture: rows inside and outside count, and a glyph counts the same at each pen.
use Rattle.std.specs.Prelude.{◌≡◌, refl, ℕ, ◌+◌, ◌*◌, ◌/◌, ◌-◌, min, max, true, ℤ, pos, negsuc, ◌-ℤ◌, unsigned_abs, List, [], ◌∷◌, length, map}
use Rattle.tt_core.specs.Bits.{stride}
use Rattle.tt_scan_edges.specs.declared.edge.Edge.{Edge}
use Rattle.tt_scan_gaps.specs.Crossings.{lines_crossed}
use Rattle.tt_scan_gaps.specs.Boxes.{columns_of, columns_reached, rows_reached}
use Rattle.tt_scan_gaps.specs.Seen.{turned_round}
use Rattle.tt_scan_dropouts.specs.Dropouts.{crossed}
use Rattle.tt_scan_gaps.specs.declared.extent.Extents.{Extents}
use Rattle.tt_scan_gaps.specs.declared.mark.Columns.{Columns}

-- rows are worked on in bands of at most this many
abbrev pub band_rows : ℕ
band_rows = 2048

-- how many bands some rows are
abbrev pub bands : ℕ → ℕ
bands rows = (rows + 2047) / band_rows

-- how many numbers the columns of a box are, or its rows
abbrev pub numbers_in : Columns → ℕ
numbers_in b = unsigned_abs (b.last -ℤ b.first) + 1

-- how many rows the box of some edges has
abbrev pub box_rows : List Edge → ℕ
box_rows es = numbers_in (columns_of (map turned_round es))

-- how many columns the black pixels of a glyph may lie in, dots too, and how many rows
abbrev pub extent_columns : Extents → ℕ
extent_columns b = numbers_in (columns_reached true b)

abbrev pub extent_rows : Extents → ℕ
extent_rows b = numbers_in (rows_reached true b)

-- what an edge counts for the rows that it crosses: five for each, but at least seven, since it takes memory
abbrev pub edge_rows : Edge → ℕ
edge_rows e = max 7 (5 * lines_crossed e)

-- what edges count for the rows that they cross
abbrev pub rows_counted : List Edge → ℕ
rows_counted [] = 0
rows_counted (e ∷ es) = edge_rows e + rows_counted es

-- an edge counts one for each band of the box's rows, and what it counts for the rows that it crosses: eight at least.
-- Each row of the box counts one
unfoldable pub edges_counted : List Edge → ℕ
edges_counted es = bands (box_rows es) * length es + (rows_counted es + box_rows es)

-- the bytes of a bitmap of this many columns and rows, with five pixels more on each side
abbrev pub bitmap_bytes : ℕ → ℕ → ℕ
bitmap_bytes columns rows = stride (columns + 10) * (rows + 10)

-- the bytes of the bitmaps of all bands
abbrev pub bands_bytes : ℕ → ℕ → ℕ
bands_bytes columns rows = stride (columns + 10) * (rows + 10 * bands rows)

-- where dropouts are filled: for each row or column that an edge crosses three, and one for each band, since a band
-- reads them all; and one for each 64 bytes of the bitmaps of the glyph's box
unfoldable pub filling_counted : Extents → List Edge → ℕ
filling_counted b es = (bands (extent_rows b) + 3) * crossed es + bands_bytes (extent_columns b) (extent_rows b) / 64

-- the rows of band k
abbrev pub rows_of_band : ℕ → ℕ → ℕ
rows_of_band rows k = min band_rows (rows - band_rows * k)

-- worked values
one_row_is_a_band : bands 1 ≡ 1
one_row_is_a_band = refl

a_whole_band : bands 2048 ≡ 1
a_whole_band = refl

one_row_more : bands 2049 ≡ 2
one_row_more = refl

the_band_of_that_row : rows_of_band 2049 1 ≡ 1
the_band_of_that_row = refl

forty_by_999 : bands_bytes 40 999 ≡ 7063
forty_by_999 = refl

one_pixel : bitmap_bytes 1 1 ≡ 22
one_pixel = refl

-- no edge: its box is one pixel, and the row of that pixel is counted
no_edge_counts_one : edges_counted [] ≡ 1
unfolding edges_counted
no_edge_counts_one = refl

-- a box from one place to another along each axis
box : ℤ → ℤ → ℤ → ℤ → Extents
box left bottom right top = record { across = record { low = left; high = right }; up = record { low = bottom; high = top } }

no_edge_fills : filling_counted (box (pos 4096) (pos 4096) (pos 4096) (pos 4096)) [] ≡ 0
unfolding filling_counted box
no_edge_fills = refl

-- from a pixel below the base line to a pixel above it, through the middle of the first column
upright : Edge
upright = record { ax = pos 4096; ay = negsuc 8191; bx = pos 4096; by = pos 8192 }

-- along the base line, over four columns
level : Edge
level = record { ax = pos 0; ay = pos 0; bx = pos 32768; by = pos 0 }

-- one for the band, five for each of two rows, and the two rows
its_rows_count : edges_counted (upright ∷ []) ≡ 13
unfolding edges_counted upright
its_rows_count = refl

-- a level edge crosses no row: one for the band, the least of seven, and the row of its box
a_level_edge_counts_nine : edges_counted (level ∷ []) ≡ 9
unfolding edges_counted level
a_level_edge_counts_nine = refl

-- three of them share the row of their box
three_level_edges : edges_counted (level ∷ level ∷ level ∷ []) ≡ 25
unfolding edges_counted level
three_level_edges = refl

-- an edge in one point, which crosses nothing
at_a_corner : Edge
at_a_corner = record { ax = pos 0; ay = pos 0; bx = pos 0; by = pos 0 }

a_point_is_not_filled : filling_counted (box (pos 0) (pos 0) (pos 0) (pos 0)) (at_a_corner ∷ []) ≡ 0
unfolding filling_counted box at_a_corner
a_point_is_not_filled = refl

-- the level edge crosses four columns, and the upright edge two rows: four times 6. The two bytes
-- of each of 14 rows are less than 64
both_are_filled : filling_counted (box (pos 0) (negsuc 8191) (pos 32768) (pos 8192)) (upright ∷ level ∷ []) ≡ 24
unfolding filling_counted box upright level
both_are_filled = refl

-- the same edges in a box of 999 columns: 127 bytes for each of 14 rows
a_wider_box_counts_more : filling_counted (box (pos 0) (negsuc 8191) (pos 8183808) (pos 8192)) (upright ∷ level ∷ []) ≡ 51
unfolding filling_counted box upright level
a_wider_box_counts_more = refl

-- from the centre of row 0 to that of row 1: the edge meets both rows, which are its box, and crosses one, for which it
-- counts the least of seven
between : Edge
between = record { ax = pos 0; ay = pos 4096; bx = pos 0; by = pos 12288 }

both_ends_count : edges_counted (between ∷ []) ≡ 10
unfolding edges_counted between
both_ends_count = refl

-- from the base line 2,049 rows up: two bands of two edges, 5 times 4,098, and 2,049 rows
high : Edge
high = record { ax = pos 0; ay = pos 0; bx = pos 0; by = pos 16785408 }

two_bands_count : edges_counted (high ∷ high ∷ []) ≡ 22543
unfolding edges_counted high
two_bands_count = refl

-- five for each row, and 4,142 bytes of bitmaps: 64 times 64, and 46
their_bitmaps_count : filling_counted (box (pos 0) (pos 0) (pos 0) (pos 16785408)) (high ∷ []) ≡ 10309
unfolding filling_counted box high
their_bitmaps_count = refl
