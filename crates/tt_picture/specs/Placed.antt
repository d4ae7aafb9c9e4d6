-- No part of the standard: the black pixels of glyphs at the places of lines. A glyph's own pixels count rightwards from
-- its pen, and upwards from the base line.
use Rattle.std.specs.Prelude.{◌≡◌, refl, ℕ, Bool, true, false, ◌&&◌, ◌||◌, ◌==◌, ℤ, pos, negsuc, List, [], ◌∷◌, map}
use Rattle.tt_bitmap.specs.Bitmaps.{is_black}
use Rattle.tt_picture.specs.Glyphs.{Glyph, GlyphBody, small, large, large_shows}
use Rattle.tt_picture.specs.declared.lines.PlacedLine.{PlacedLine}
use Rattle.tt_scan_dropouts.specs.Pictures.{column_at, line_at}
use Rattle.tt_scan_edges.specs.Winding.{is_zero}
use Rattle.tt_scan_edges.specs.declared.edge.Frame.{Frame}

-- a bitmap has column c of line j; glyphs that are not cut into a bitmap have no such pixel
abbrev pub in_bitmap : GlyphBody → ℤ → ℤ → Bool
in_bitmap (small b ink) c j = is_black b c j
in_bitmap (large g) c j = false

-- a glyph that is not cut into a bitmap has it
abbrev pub in_edges : GlyphBody → ℤ → ℤ → Bool
in_edges (small b ink) c j = false
in_edges (large g) c j = large_shows g c j

-- a glyph has this number and this pixel; `has` says which pixels a body has
abbrev pub glyph_has : (GlyphBody → ℤ → ℤ → Bool) → Glyph → ℕ → ℤ → ℤ → Bool
glyph_has has g n c j = n == g.number && has g.body c j

-- one of some glyphs has this number and this pixel
abbrev pub number_has : (GlyphBody → ℤ → ℤ → Bool) → List Glyph → ℕ → ℤ → ℤ → Bool
number_has has [] n c j = false
number_has has (g ∷ gs) n c j = glyph_has has g n c j || number_has has gs n c j

-- the glyph at some place of a line has column c of row r; `has` says which pixels the glyph of a number has
abbrev pub place_has : (ℕ → ℤ → ℤ → Bool) → Frame → List (ℕ × ℕ) → ℕ → ℕ → Bool
place_has has f [] c r = false
place_has has f (g ∷ gs) c r = has g.0 (column_at f g.1 c) (line_at f r) || place_has has f gs c r

-- the glyph at some place of some lines has it
abbrev pub lines_have : (ℕ → ℤ → ℤ → Bool) → List PlacedLine → ℕ → ℕ → Bool
lines_have has [] c r = false
lines_have has (l ∷ ls) c r = place_has has l.frame l.glyphs.now c r || lines_have has ls c r

-- worked values: a picture of five rows, whose base line is under the third, with a margin of one pixel
five_rows : Frame
five_rows = record { width = 9; height = 5; margin = 1; rise = pos 2 }

-- glyph 3 is one pixel, right of its pen and above the base line; all others are blank
a_point : ℕ → ℤ → ℤ → Bool
a_point n c j = n == 3 && (is_zero c && is_zero j)

-- at pen 4 it has column 5 of row 2
its_column : map (λ c. place_has a_point five_rows ((5, 0) ∷ (3, 4) ∷ []) c 2) (4 ∷ 5 ∷ 6 ∷ []) ≡ false ∷ true ∷ false ∷ []
unfolding five_rows a_point
its_column = refl

its_row : map (place_has a_point five_rows ((5, 0) ∷ (3, 4) ∷ []) 5) (1 ∷ 2 ∷ 3 ∷ []) ≡ false ∷ true ∷ false ∷ []
unfolding five_rows a_point
its_row = refl

-- where the base line is above the picture, the picture has no row of the glyph
above_the_picture : map (place_has a_point (record five_rows { rise = negsuc 1 }) ((3, 0) ∷ []) 1) (0 ∷ 1 ∷ []) ≡ false ∷ false ∷ []
unfolding five_rows a_point
above_the_picture = refl
