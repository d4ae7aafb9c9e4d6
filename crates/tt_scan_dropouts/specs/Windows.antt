-- No part of the standard: the black pixels of a glyph in a window. Pixels outside count as black, so that no gap there
-- is free.
use Rattle.std.specs.Prelude.{ℕ, ◌+◌, ◌*◌, ◌^◌, ◌<◌, ◌≤◌, Bool, true, ◌&&◌, if◌then◌else◌, ℤ, pos, ◌+ℤ◌, ◌-ℤ◌, ◌≤ℤ◌, int_lt, int_le, unsigned_abs, List}
use Rattle.std.specs.Int.{int_max}
use Rattle.tt_core.specs.Bits.{bit, stride}
use Rattle.tt_core.specs.Limits.{height_limit}
use Rattle.tt_scan_edges.specs.declared.edge.Frame.{Frame}
use Rattle.tt_scan_gaps.specs.Boxes.{is_column_of}
use Rattle.tt_scan_gaps.specs.declared.mark.Columns.{Columns}
use Rattle.tt_scan_gaps.specs.declared.seen.Over.{Over}
use Rattle.tt_scan_gaps.specs.declared.seen.Over.TheVariants as over
use Rattle.tt_scan_dropouts.specs.Passes.{has_pixel}
use Rattle.tt_scan_dropouts.specs.declared.pixel.Pixel.{Pixel}
use Rattle.tt_scan_dropouts.specs.declared.window.Part.{Part}
use Rattle.tt_scan_dropouts.specs.declared.window.Window.{Window}

-- limits on a window: at most the rows of a picture, and two more on each side
pub record WindowFits (w : Window) : Type 0 where
  pub left : unsigned_abs w.left < 2 ^ 19
  pub bottom : unsigned_abs w.bottom < 2 ^ 20
  pub top : unsigned_abs (w.bottom +ℤ pos w.height) < 2 ^ 20
  pub width : w.width < 2 ^ 20
  pub low : 1 ≤ w.height
  pub high : w.height ≤ height_limit + 4

-- a window is near the origin, and has a row
pub record WindowNear (w : Window) : Type 0 where
  pub left : unsigned_abs w.left ≤ 2 ^ 18
  pub bottom : unsigned_abs w.bottom ≤ 2 ^ 18
  pub top : unsigned_abs (w.bottom +ℤ pos w.height) ≤ 2 ^ 18
  pub width : w.width ≤ 2 ^ 19
  pub some : 1 ≤ w.height

-- one of `count` numbers from `first` on
abbrev pub is_within : ℤ → ℕ → ℤ → Bool
is_within first count n = int_le first n && int_lt n (first +ℤ pos count)

-- a pixel lies in a window
abbrev pub has : Window → ℤ → ℤ → Bool
has w c j = is_within w.left w.width c && is_within w.bottom w.height j

-- a pixel lies in a box, given by its columns and its rows
abbrev pub box_has : Columns → Columns → ℤ → ℤ → Bool
box_has columns rows c j = is_column_of columns c && is_column_of rows j

-- a part of `count` numbers from `first` on: it begins no later than the columns of a box need, and lies in the box
pub record IsPart (first : ℤ) (count : ℕ) (b : Columns) (p : Part) : Type 0 where
  pub some : 1 ≤ p.count
  pub within : b.first ≤ℤ p.from
  pub last : (p.from +ℤ pos p.count) ≤ℤ (b.last +ℤ pos 1)
  pub low : first ≤ℤ p.from
  pub near : p.from ≤ℤ int_max first b.first
  pub high : (p.from +ℤ pos p.count) ≤ℤ (first +ℤ pos count)

-- `n` pixels larger on each side
abbrev pub widened : ℕ → Window → Window
widened n w = record {
  left = w.left -ℤ pos n;
  bottom = w.bottom -ℤ pos n;
  width = w.width + 2 * n;
  height = w.height + 2 * n;
}

-- a frame with the rows of a window, from the top down; its columns are arbitrary
abbrev pub frame_of : Window → Frame
frame_of w = record { width = 1; height = w.height; margin = 0; rise = w.bottom +ℤ pos w.height }

-- the row of a frame that is the topmost of a window, and whether the frame has all rows of the window
abbrev pub first_row : Frame → Window → ℤ
first_row f w = ((f.rise +ℤ pos f.margin) -ℤ w.bottom) -ℤ pos w.height

abbrev pub has_rows : Frame → Window → Bool
has_rows f w = int_le (pos 0) (first_row f w) && int_le (first_row f w +ℤ pos w.height) (pos f.height)

-- the row of a window after a number of rows from its top
abbrev pub row_from_top : Window → ℕ → ℤ
row_from_top w r = (w.bottom +ℤ pos w.height) -ℤ pos (r + 1)

-- the rows of a window from the bottom up, each a whole number of bytes
pub record Bitmap : Type 0 where
  pub window : Window
  pub bits : List ℕ

-- the number of a pixel of the window among the bits
abbrev pub place : Window → ℤ → ℤ → ℕ
place w c j = 8 * (stride w.width * unsigned_abs (j -ℤ w.bottom)) + unsigned_abs (c -ℤ w.left)

abbrev pub is_black_in : Bitmap → ℤ → ℤ → Bool
is_black_in b c j = if has b.window c j then bit b.bits (place b.window c j) else true

-- pixel p of line j is black in a bitmap, by rows or by columns
abbrev pub is_black_by : Over → Bitmap → ℤ → ℤ → Bool
is_black_by over.Rows b p j = is_black_in b p j
is_black_by over.Columns b p j = is_black_in b j p

-- a list of pixels has pixel p of line j; in a pass over columns with column and row exchanged
abbrev pub has_pixel_by : Over → List Pixel → ℤ → ℤ → Bool
has_pixel_by over.Rows ps c j = has_pixel ps c j
has_pixel_by over.Columns ps c j = has_pixel ps j c
