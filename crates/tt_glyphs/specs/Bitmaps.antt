-- No part of the standard: the bitmap of a glyph's ink, which is the least box of its black pixels (profile). A column
-- counts rightwards from the pen, a line upwards from the base line.
use Rattle.std.specs.Prelude.{◌≡◌, refl, ℕ, ◌+◌, ◌*◌, ◌^◌, ◌<◌, ◌≤◌, Bool, ◌||◌, nat_lt, ℤ, pos, negsuc, ◌+ℤ◌, ◌-ℤ◌, unsigned_abs, List, Option, Some, None}
use Rattle.tt_core.specs.Bits.{stride}
use Rattle.tt_core.specs.Limits.{height_limit, width_limit}
use Rattle.tt_glyph_pixels.specs.Shown.{is_filled}
use Rattle.tt_picture.specs.Pixels.{Shape}
use Rattle.tt_picture.specs.Rows.{rows}
use Rattle.tt_scan_edges.specs.Winding.{is_black}
use Rattle.tt_scan_gaps.specs.Crossings.{centre}
use Rattle.tt_bitmap.specs.declared.ink.LeastBox.{LeastBox}
use Rattle.tt_glyphs.specs.declared.place.InkPlace.{InkPlace}

-- the place of the ink in a box. Without ink all four numbers are 0
abbrev pub place_of : Option LeastBox → InkPlace
place_of None = record { left = pos 0; top = pos 0; width = 0; height = 0 }
place_of (Some b) = record {
  left = b.left;
  top = b.top +ℤ pos 1;
  width = unsigned_abs (b.right -ℤ b.left) + 1;
  height = unsigned_abs (b.top -ℤ b.bottom) + 1;
}

-- ink stands near the pen and the base line, and where it has columns it has rows
pub record IsPlace (p : InkPlace) : Type 0 where
  pub left : unsigned_abs p.left < 2 ^ 18
  pub top : unsigned_abs p.top ≤ 2 ^ 18
  pub high : 1 ≤ p.width → 1 ≤ p.height

-- the place of a bitmap that is not too large
pub record PlaceFits (p : InkPlace) : Type 0 where
  pub width : p.width ≤ width_limit
  pub height : p.height ≤ height_limit
  pub left : unsigned_abs p.left < 2 ^ 18
  pub top : unsigned_abs p.top ≤ 2 ^ 18

-- a bitmap that is wider or higher than a picture may be
abbrev pub is_large : InkPlace → Bool
is_large p = nat_lt width_limit p.width || nat_lt height_limit p.height

abbrev pub place_bytes : InkPlace → ℕ
place_bytes p = stride p.width * p.height

-- a glyph at pen 0 has a black pixel here
abbrev pub is_black_at : Shape → ℤ → ℤ → Bool
is_black_at s column line = is_black s.edges (centre column) (centre line) || is_filled s.filled s.contours column line

-- column c of row r of a bitmap, both from 0 on, the highest row first
abbrev pub bitmap_pixel : Shape → InkPlace → ℕ → ℕ → Bool
bitmap_pixel s p c r = is_black_at s (p.left +ℤ pos c) ((p.top -ℤ pos 1) -ℤ pos r)

-- the bytes of a glyph's rows
abbrev pub bitmap : Shape → InkPlace → List ℕ
bitmap s p = rows p.width (bitmap_pixel s p) 0 (place_bytes p)

-- worked values: ink from column -2 to 4 of lines -1 to 4, one pixel below and left of the pen, and no ink
all_round : place_of (Some (record { left = negsuc 1; bottom = negsuc 0; right = pos 4; top = pos 4 }))
    ≡ record { left = negsuc 1; top = pos 5; width = 7; height = 6 }
all_round = refl

one_pixel : place_of (Some (record { left = negsuc 0; bottom = negsuc 0; right = negsuc 0; top = negsuc 0 }))
    ≡ record { left = negsuc 0; top = pos 0; width = 1; height = 1 }
one_pixel = refl

no_bytes : place_bytes (place_of None) ≡ 0
no_bytes = refl

two_bytes_a_row : place_bytes (record { left = pos 0; top = pos 3; width = 9; height = 3 }) ≡ 6
two_bytes_a_row = refl
