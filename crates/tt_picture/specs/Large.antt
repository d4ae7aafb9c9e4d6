-- No part of the standard: glyphs without a bitmap, at some pens of a line.
use Rattle.std.specs.Prelude.{◌≡◌, refl, ℕ, ◌*◌, ◌<◌, ◌≤◌, ◌^◌, Bool, false, ◌||◌, ◌==◌, if◌then◌else◌, pos, ◌-ℤ◌, List, [], ◌∷◌, length, Option}
use Rattle.tt_core.specs.Limits.{height_limit}
use Rattle.tt_glyph_pixels.specs.Shown.{is_filled}
use Rattle.tt_picture.specs.Glyphs.{LargeGlyph, large_shows}
use Rattle.tt_scan.specs.Tape.{Tape}
use Rattle.tt_scan_dropouts.specs.Pictures.{column_at, line_at}
use Rattle.tt_scan_dropouts.specs.declared.boxed.BoxedRules.{BoxedRules}
use Rattle.tt_scan_edges.specs.Winding.{column_x, is_black, row_y}
use Rattle.tt_scan_edges.specs.declared.edge.Edge.{Edge}
use Rattle.tt_scan_edges.specs.declared.edge.Frame.{Frame}

-- edges made for pen 0 blacken column c of row r from some pen
abbrev pub is_black_from : Frame → List Edge → List ℕ → ℕ → ℕ → Bool
is_black_from f es [] c r = false
is_black_from f es (pen ∷ pens) c r =
    is_black es (column_x f.margin (pos c -ℤ pos pen)) (row_y f (pos r)) || is_black_from f es pens c r

-- contours made for pen 0 have it as a dropout from some pen
abbrev pub is_filled_from : Frame → Option BoxedRules → List (List Edge) → List ℕ → ℕ → ℕ → Bool
is_filled_from f filled contours [] c r = false
is_filled_from f filled contours (pen ∷ pens) c r =
    is_filled filled contours (column_at f pen c) (line_at f r) || is_filled_from f filled contours pens c r

-- a glyph has it from some pen
abbrev pub large_shows_from : Frame → LargeGlyph → List ℕ → ℕ → ℕ → Bool
large_shows_from f g [] c r = false
large_shows_from f g (pen ∷ pens) c r = large_shows g (column_at f pen c) (line_at f r) || large_shows_from f g pens c r

-- the pens of a glyph in a line
abbrev pub pens_in : ℕ → List (ℕ × ℕ) → List ℕ
pens_in n [] = []
pens_in n (g ∷ gs) = if g.0 == n then g.1 ∷ pens_in n gs else pens_in n gs

-- the tape has this frame and at most 2 ^ 19 edges, and its first rows are cut, this many: each edge is crossed once a row
pub record TapeFits (f : Frame) (made : ℕ) (t : Tape) : Type 0 where
  pub frame : t.frame ≡ f
  pub edges : length t.edges ≤ 2 ^ 19
  pub crosses : t.crosses ≤ made * 2 ^ 19

-- row r of a picture within the limits, and bytes that have a bit for each of its pixels
pub record IsRowOf (f : Frame) (r : ℕ) (row : List ℕ) : Type 0 where
  pub height : f.height ≤ height_limit
  pub within : r < f.height
  pub width : f.width ≤ 8 * length row

-- worked value: the pens of glyph 3
of_one_glyph : pens_in 3 ((3, 0) ∷ (5, 4) ∷ (3, 9) ∷ []) ≡ 0 ∷ 9 ∷ []
of_one_glyph = refl
