-- No part of the standard: lines of glyphs in one picture. Each line has a frame, so its own base line, and its glyphs by
-- their numbers with their pens.
use Rattle.std.specs.Prelude.{◌≡◌, ℕ, Bool, true, false, ◌||◌, List, [], ◌∷◌, All, Result, Ok, Err}
use Rattle.tt_core.specs.Faults.{Fault}
use Rattle.tt_core.specs.Outcomes.{each}
use Rattle.tt_fit.specs.Fitting.{Fitter}
use Rattle.tt_picture.specs.Distinct.{is_among}
use Rattle.tt_picture.specs.Pixels.{Shape, is_black_pixel}
use Rattle.tt_picture.specs.Shapes.{glyph_shape}
use Rattle.tt_picture.specs.declared.lines.PlacedLine.{PlacedLine}
use Rattle.tt_scan_edges.specs.declared.edge.Frame.{Frame}

-- some glyphs have column c of row r, if they are made
abbrev pub is_shown : Frame → Result (List Shape) Fault → ℕ → ℕ → Bool
is_shown f (Ok glyphs) c r = is_black_pixel f glyphs c r
is_shown f (Err fault) c r = false

-- the glyphs of a line have it, by the fitter of each
abbrev pub line_shows : (ℕ → Fitter) → PlacedLine → ℕ → ℕ → Bool
line_shows maker line c r = is_shown line.frame (each (glyph_shape maker) line.glyphs.now) c r

-- the glyphs of one of some lines have it
abbrev pub some_line_shows : (ℕ → Fitter) → List PlacedLine → ℕ → ℕ → Bool
some_line_shows maker [] c r = false
some_line_shows maker (line ∷ lines) c r = line_shows maker line c r || some_line_shows maker lines c r

-- the glyphs of a line are among these
abbrev pub HasGlyphsOf : List ℕ → List (ℕ × ℕ) → Type 0
HasGlyphsOf numbers line = All (λ g. is_among g.0 numbers ≡ true) line

-- a line has the width and the height of a picture
abbrev pub HasSizeOf : Frame → PlacedLine → Type 0
HasSizeOf f l = (l.frame.width ≡ f.width) × (l.frame.height ≡ f.height)

-- lines of one picture: all have its size, and their glyphs are among these
pub record AreLinesOf (f : Frame) (numbers : List ℕ) (lines : List PlacedLine) : Type 0 where
  pub alike : All (HasSizeOf f) lines
  pub among : All (λ l. HasGlyphsOf numbers l.glyphs.now) lines
