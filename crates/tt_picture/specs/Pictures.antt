-- A picture whose rows are made one after the other, and its image.
use Rattle.std.specs.Prelude.{◌≡◌, refl, ℕ, ◌*◌, ◌/◌, ◌^◌, ◌≤◌, Bool, List, [], ◌∷◌, length, take, drop, min, pos, unsigned_abs}
use Rattle.tt_core.specs.Bits.{stride}
use Rattle.tt_core.specs.Limits.{height_limit}
use Rattle.tt_scan_edges.specs.declared.edge.Frame.{Frame}
use Rattle.tt_scan_edges.specs.Winding.{FrameFits}
use Rattle.tt_picture.specs.Pixels.{Shape, is_black_pixel}
use Rattle.tt_picture.specs.Rows.{rows}
use Rattle.tt_picture.specs.declared.report.Unfitted.{Unfitted}

-- the frame, the bytes of its rows, how many rows were made, the unfitted glyphs, and what the text takes of the budget of
-- many lines
pub record Picture : Type 0 where
  pub frame : Frame
  pub rows : List ℕ
  pub made : ℕ
  pub unfitted : List Unfitted
  pub cost : ℕ

-- the bytes of this many rows from row r on
abbrev pub rows_at : Picture → ℕ → ℕ → List ℕ
rows_at p r count = take (stride p.frame.width * count) (drop (stride p.frame.width * r) p.rows)

-- the most rows that 65,536 bytes hold, or all rows of a smaller picture
abbrev pub band_rows : Frame → ℕ
band_rows f = min f.height (65536 / stride f.width)

-- what a picture shows: its frame, and the bytes of its rows
pub record Image : Type 0 where
  pub frame : Frame
  pub rows : List ℕ

abbrev pub image_of : Picture → Image
image_of p = record { frame = p.frame; rows = p.rows }

-- the image of a frame with these pixels: `black c r` says whether column c is black in row r
abbrev pub image : Frame → (ℕ → ℕ → Bool) → Image
image f black = record { frame = f; rows = rows f.width black 0 (stride f.width * f.height) }

-- a frame of another width
abbrev pub narrowed : Frame → ℕ → Frame
narrowed f width = record { width = width; height = f.height; margin = f.margin; rise = f.rise }

-- the image in which some glyphs are drawn
abbrev pub picture : Frame → List Shape → Image
picture f glyphs = image f (is_black_pixel f glyphs)

-- the frame of a picture within the limits
pub record IsPictureFrame (f : Frame) : Type 0 where
  pub fits : FrameFits f
  pub height : f.height ≤ height_limit
  pub rise : unsigned_abs f.rise ≤ 10 ^ 6

-- a picture within the limits, with no row made yet
pub record IsReady (p : Picture) : Type 0 where
  pub frame : FrameFits p.frame
  pub height : p.frame.height ≤ height_limit
  pub rows : length p.rows ≡ stride p.frame.width * p.frame.height
  pub made : p.made ≡ 0

-- worked values: three rows of nine pixels
nine_wide : Picture
nine_wide = record {
  frame = record { width = 9; height = 3; margin = 0; rise = pos 3 };
  rows = 1 ∷ 128 ∷ 2 ∷ 0 ∷ 4 ∷ 128 ∷ [];
  made = 0;
  unfitted = [];
  cost = 0;
}

its_row_in_the_middle : rows_at nine_wide 1 1 ≡ 2 ∷ 0 ∷ []
unfolding nine_wide
its_row_in_the_middle = refl

its_lower_rows : rows_at nine_wide 1 2 ≡ 2 ∷ 0 ∷ 4 ∷ 128 ∷ []
unfolding nine_wide
its_lower_rows = refl

the_largest_goes_out_by_32_rows : band_rows (record { width = 16384; height = 4096; margin = 0; rise = pos 0 }) ≡ 32
the_largest_goes_out_by_32_rows = refl
