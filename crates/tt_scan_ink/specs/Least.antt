-- Which black pixels a box is sought for, and boxes near the pen.
use Rattle.std.specs.Prelude.{ℕ, Bool, ◌&&◌, ◌^◌, ◌<◌, ℤ, ◌≤ℤ◌, unsigned_abs, List}
use Rattle.std.specs.Ordering.{int_eq}
use Rattle.tt_scan_edges.specs.Marks.{covers}
use Rattle.tt_scan_edges.specs.Winding.{is_black}
use Rattle.tt_scan_edges.specs.declared.edge.Edge.{Edge}
use Rattle.tt_scan_edges.specs.declared.mark.Span.{Span}
use Rattle.tt_scan_gaps.specs.Crossings.{centre}
use Rattle.tt_scan_gaps.specs.Boxes.{is_column_of}
use Rattle.tt_scan_dropouts.specs.Windows.{is_within}
use Rattle.tt_scan_gaps.specs.declared.mark.Columns.{Columns}
use Rattle.tt_bitmap.specs.declared.ink.LeastBox.{LeastBox}

-- a pixel is black, and lies in some columns of `count` lines from `first` on
abbrev pub shown : Columns → ℤ → ℕ → (ℤ → ℤ → Bool) → ℤ → ℤ → Bool
shown columns first count black c j = is_column_of columns c && (is_within first count j && black c j)

-- black by rules 1 and 2
abbrev pub is_inked_by : List Edge → ℤ → ℤ → Bool
is_inked_by es c j = is_black es (centre c) (centre j)

-- spans cover a pixel of one line in some columns
abbrev pub covered : Columns → ℤ → List Span → ℤ → ℤ → Bool
covered columns line ss c j = is_column_of columns c && (int_eq line j && covers ss c)

-- columns or lines in order, near enough that a window round them fits
pub record AreNear (b : Columns) : Type 0 where
  pub first : unsigned_abs b.first < 2 ^ 18
  pub last : unsigned_abs b.last < 2 ^ 18
  pub order : b.first ≤ℤ b.last

-- a box that is as near
pub record IsNear (b : LeastBox) : Type 0 where
  pub left : unsigned_abs b.left < 2 ^ 18
  pub bottom : unsigned_abs b.bottom < 2 ^ 18
  pub right : unsigned_abs b.right < 2 ^ 18
  pub top : unsigned_abs b.top < 2 ^ 18
