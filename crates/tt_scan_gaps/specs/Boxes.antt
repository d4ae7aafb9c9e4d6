-- The columns of a glyph's box (profile). The rows are the columns of the outline with x and y exchanged.
use Rattle.std.specs.Prelude.{◌≡◌, refl, ◌^◌, ◌<◌, Bool, true, false, ◌&&◌, if◌then◌else◌, ℤ, pos, negsuc, ◌+ℤ◌, ◌-ℤ◌, ◌*ℤ◌, ◌≤ℤ◌, int_le, unsigned_abs, All, List, [], ◌∷◌}
use Rattle.std.specs.Int.{int_max, int_min}
use Rattle.tt_scan_edges.specs.declared.edge.Edge.{Edge}
use Rattle.tt_scan_gaps.specs.Crossings.{gap_at, line_from}
use Rattle.tt_scan_gaps.specs.declared.extent.Extent.{Extent}
use Rattle.tt_scan_gaps.specs.declared.extent.Extents.{Extents}
use Rattle.tt_scan_gaps.specs.declared.mark.Columns.{Columns}

-- the columns of a glyph's box: those with a centre from the least to the greatest x. Where there is none, the column
-- nearer to the middle, and the right one where both are as near
abbrev pub columns_between : ℤ → ℤ → Columns
columns_between low high =
    let first = line_from low in
    let last = gap_at high in
    if int_le first last then record { first = first; last = last }
    else (if int_le (pos 16384 *ℤ first) (low +ℤ high) then record { first = first; last = first }
    else record { first = last; last = last })

-- the least and the greatest x of the edge ends
abbrev pub least_x : ℤ → List Edge → ℤ
least_x x [] = x
least_x x (e ∷ es) = least_x (int_min x (int_min e.ax e.bx)) es

abbrev pub greatest_x : ℤ → List Edge → ℤ
greatest_x x [] = x
greatest_x x (e ∷ es) = greatest_x (int_max x (int_max e.ax e.bx)) es

-- the columns of an outline's box
abbrev pub columns_of : List Edge → Columns
columns_of [] = record { first = pos 0; last = pos 0 }
columns_of (e ∷ es) = columns_between (least_x e.ax (e ∷ es)) (greatest_x e.ax (e ∷ es))

-- limits on the columns of a box, or its rows
pub record ColumnsFit (b : Columns) : Type 0 where
  pub first : unsigned_abs b.first < 2 ^ 19
  pub last : unsigned_abs b.last < 2 ^ 19

-- those that a box within the limits reaches
pub record ColumnsNear (b : Columns) : Type 0 where
  pub first : unsigned_abs b.first < 2 ^ 18
  pub last : unsigned_abs b.last < 2 ^ 18

-- limits on an extent
pub record ExtentFits (e : Extent) : Type 0 where
  pub low : unsigned_abs e.low < 2 ^ 30
  pub high : unsigned_abs e.high < 2 ^ 30

pub record ExtentsFit (b : Extents) : Type 0 where
  pub across : ExtentFits b.across
  pub up : ExtentFits b.up

-- the columns and the rows of a box
abbrev pub columns_in : Extents → Columns
columns_in b = columns_between b.across.low b.across.high

abbrev pub rows_in : Extents → Columns
rows_in b = columns_between b.up.low b.up.high

-- where dots are drawn, a black pixel may lie one column or row outside the box
abbrev pub reached : Bool → Columns → Columns
reached true b = record { first = b.first -ℤ pos 1; last = b.last +ℤ pos 1 }
reached false b = b

-- the columns and the rows that a glyph's black pixels may lie in
abbrev pub columns_reached : Bool → Extents → Columns
columns_reached dots b = reached dots (columns_in b)

abbrev pub rows_reached : Bool → Extents → Columns
rows_reached dots b = reached dots (rows_in b)

-- a box with x and y exchanged
abbrev pub extents_turned : Extents → Extents
extents_turned b = record { across = b.up; up = b.across }

-- an edge lies between these places
pub record EdgeWithin (low_x high_x low_y high_y : ℤ) (e : Edge) : Type 0 where
  pub left : low_x ≤ℤ int_min e.ax e.bx
  pub right : int_max e.ax e.bx ≤ℤ high_x
  pub bottom : low_y ≤ℤ int_min e.ay e.by
  pub top : int_max e.ay e.by ≤ℤ high_y

-- a box holds all of some edges
abbrev pub HoldsEdges : Extents → List Edge → Type 0
HoldsEdges b es = All (EdgeWithin b.across.low b.across.high b.up.low b.up.high) es

-- a box within the limits that holds some edges
pub record IsBoxOf (b : Extents) (es : List Edge) : Type 0 where
  pub fits : ExtentsFit b
  pub held : HoldsEdges b es

-- one of the columns of a box, or of its rows
abbrev pub is_column_of : Columns → ℤ → Bool
is_column_of b n = int_le b.first n && int_le n b.last

-- worked values: from the middle of column 0 to that of column 2; then a stem between the centres of columns 0 and 1,
-- left and right of their border
three_columns : columns_between (pos 4096) (pos 20480) ≡ record { first = pos 0; last = pos 2 }
three_columns = refl

nearer_to_the_left : columns_between (pos 5000) (pos 6000) ≡ record { first = pos 0; last = pos 0 }
nearer_to_the_left = refl

nearer_to_the_right : columns_between (pos 9000) (pos 10000) ≡ record { first = pos 1; last = pos 1 }
nearer_to_the_right = refl

-- a box from the middle of column -1 to that of column 0, and below the middle of row 0
low_box : Extents
low_box = record { across = record { low = negsuc 4095; high = pos 4096 }; up = record { low = pos 0; high = pos 4095 } }

its_columns : columns_in low_box ≡ record { first = negsuc 0; last = pos 0 }
unfolding low_box
its_columns = refl

its_row : rows_in low_box ≡ record { first = pos 0; last = pos 0 }
unfolding low_box
its_row = refl

its_columns_are_rows_when_turned : rows_in (extents_turned low_box) ≡ record { first = negsuc 0; last = pos 0 }
unfolding low_box
its_columns_are_rows_when_turned = refl
