-- The black pixels of a line: OpenType, "TrueType Fundamentals", the scan converter's rules 1 and 2, for each glyph by
-- itself. One glyph's winding does not count for another. The dropouts of each glyph, by its own rules, are added where
-- they are filled.
use Rattle.std.specs.Prelude.{◌≡◌, ℕ, ◌+◌, ◌*◌, ◌≤◌, Bool, false, ◌||◌, ℤ, pos, List, [], ◌∷◌, length, Option}
use Rattle.tt_core.specs.Bits.{stride}
use Rattle.tt_core.specs.Limits.{height_limit}
use Rattle.tt_glyph_pixels.specs.Shown.{is_filled}
use Rattle.tt_scan_edges.specs.declared.edge.Edge.{Edge}
use Rattle.tt_scan_edges.specs.declared.edge.Frame.{Frame}
use Rattle.tt_scan_edges.specs.Winding.{is_black, column_x, row_y}
use Rattle.tt_scan_dropouts.specs.Pictures.{column_at, line_at}
use Rattle.tt_scan_dropouts.specs.declared.boxed.BoxedRules.{BoxedRules}

-- a glyph at its pen: its edges, also contour by contour, and its dropout rules, if dropouts are filled
pub record Shape : Type 0 where
  pub edges : List Edge
  pub contours : List (List Edge)
  pub filled : Option BoxedRules

-- the edges of some glyphs blacken a point
abbrev pub some_black : List Shape → ℤ → ℤ → Bool
some_black [] x y = false
some_black (s ∷ ss) x y = is_black s.edges x y || some_black ss x y

-- dropouts of some glyphs have column c of row r
abbrev pub some_filled : Frame → List Shape → ℕ → ℕ → Bool
some_filled f [] c r = false
some_filled f (s ∷ ss) c r = is_filled s.filled s.contours (column_at f 0 c) (line_at f r) || some_filled f ss c r

-- the centre of column c in row r is black, or the pixel is a dropout
abbrev pub is_black_pixel : Frame → List Shape → ℕ → ℕ → Bool
is_black_pixel f glyphs c r =
    some_black glyphs (column_x f.margin (pos c)) (row_y f (pos r)) || some_filled f glyphs c r

-- rows of a picture within the limits, this many from row `from` on, and their bytes
pub record IsBandOf (f : Frame) (from count : ℕ) (band : List ℕ) : Type 0 where
  pub height : f.height ≤ height_limit
  pub within : from + count ≤ f.height
  pub len : length band ≡ stride f.width * count
