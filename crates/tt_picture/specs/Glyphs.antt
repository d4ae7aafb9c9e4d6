-- No part of the standard: the distinct glyphs of some lines, each with its pixels at pen 0.
use Rattle.std.specs.Prelude.{◌≡◌, ℕ, ℤ, ◌<◌, ◌≤◌, ◌-◌, ◌+◌, ◌^◌, Bool, List, length, map, slice_index, All, IfSome, Option, Ok}
use Rattle.tt_bitmap.specs.Bitmaps as bitmaps
use Rattle.tt_bitmap.specs.Bitmaps.{BoxBitmap}
use Rattle.tt_bitmap.specs.declared.ink.LeastBox.{LeastBox}
use Rattle.tt_core.specs.Faults.{Fault}
use Rattle.tt_fit.specs.Fitting.{Fitter, fitted_outline, unfitted_fault}
use Rattle.tt_fit.specs.outline.Outline.{Outline}
use Rattle.tt_fit.specs.outline.Steps.{advance_left}
use Rattle.tt_glyph_pixels.specs.Shown.{shows}
use Rattle.tt_picture.specs.Ink.{ink_by}
use Rattle.tt_picture.specs.Shapes.{chords_with, contours_of, edges_at, filled_by, filling_crossings}
use Rattle.tt_picture.specs.Steps.{chords_of}
use Rattle.tt_scan.specs.Contours.{AreEnds, IsClosed, contours_at}
use Rattle.tt_scan_dropouts.specs.Counted.{edges_counted}
use Rattle.tt_scan_dropouts.specs.declared.boxed.BoxedRules.{BoxedRules}
use Rattle.tt_scan_edges.specs.declared.edge.Edge.{Edge}
use Rattle.tt_scan_gaps.specs.Boxes.{IsBoxOf}

-- the edges of a glyph at pen 0, the ends of its contours among them, and the rules for filling its dropouts, if they are
-- filled
pub record LargeGlyph : Type 0 where
  pub edges : List Edge
  pub ends : List ℕ
  pub filled : Option BoxedRules

-- its pixels can be cut: where dropouts are filled, the box holds the edges, and the contours end among the edges and are
-- closed
pub record CanBeCut (g : LargeGlyph) : Type 0 where
  pub few : length g.edges ≤ 2 ^ 19
  pub ends : IfSome g.filled (λ rules. AreEnds (length g.edges) g.ends)
  pub boxed : IfSome g.filled (λ rules. IsBoxOf rules.extents g.edges)
  pub closed : IfSome g.filled (λ rules. All IsClosed (contours_at g.edges g.ends))

-- the pixels of a glyph at pen 0: a bitmap with the least box of its black pixels, or the edges that they are cut from
pub data GlyphBody : Type 0 where
  small : BoxBitmap → Option LeastBox → GlyphBody
  large : LargeGlyph → GlyphBody

-- column c of line j is black, both counted from the pen
abbrev pub large_shows : LargeGlyph → ℤ → ℤ → Bool
large_shows g c j = shows g.edges (contours_at g.edges g.ends) g.filled c j

abbrev pub body_shows : GlyphBody → ℤ → ℤ → Bool
body_shows (small b ink) c j = bitmaps.is_black b c j
body_shows (large g) c j = large_shows g c j

-- the least box of the black pixels
abbrev pub body_ink : GlyphBody → Option LeastBox
body_ink (small b ink) = ink
body_ink (large g) = ink_by g.edges (contours_at g.edges g.ends) g.filled

-- the crossings of edges that were cut into a bitmap; a glyph with these crossings has this body
abbrev pub crossings_cut : ℕ → GlyphBody → ℕ
crossings_cut crossings (small b ink) = crossings
crossings_cut crossings (large g) = 0

-- a glyph by its number in the font: the distance of its advance's ends, its chords, its crossings at one pen, its pixels,
-- and the fault that makes it unfitted
pub record Glyph : Type 0 where
  pub number : ℕ
  pub advance_left : ℤ
  pub chords : ℕ
  pub crossings : ℕ
  pub body : GlyphBody
  pub unfitted : Option Fault

-- the numbers of some glyphs, in their order
abbrev pub numbers_of : List Glyph → List ℕ
numbers_of gs = map (λ g. g.number) gs

-- the boxes of some glyphs' black pixels at pen 0
abbrev pub inks_of : List Glyph → List (Option LeastBox)
inks_of gs = map (λ g. body_ink g.body) gs

-- a body has the pixels of these edges, contours and dropout rules
pub record IsBodyOf (es : List Edge) (contours : List (List Edge)) (filled : Option BoxedRules) (b : GlyphBody) : Type 0 where
  pub pixels : (c j : ℤ) → body_shows b c j ≡ shows es contours filled c j
  pub ink : body_ink b ≡ ink_by es contours filled

-- a glyph has the pixels, the crossings, the advance and the chords of its outline, and the fault that makes it unfitted
pub record IsDrawn (s : Fitter) (g : Glyph) : Type 0 where
  pub shape : Outline
  pub outline : fitted_outline s g.number ≡ Ok shape
  pub body : IsBodyOf (edges_at (chords_with s) 0 shape) (contours_of (chords_with s) 0 shape) (filled_by s g.number shape) g.body
  pub crossings : g.crossings ≡ edges_counted (edges_at (chords_with s) 0 shape)
      + filling_crossings (filled_by s g.number shape) (edges_at (chords_with s) 0 shape)
  pub advance : g.advance_left ≡ advance_left shape
  pub chords : g.chords ≡ chords_of (chords_with s) shape
  pub unfitted : g.unfitted ≡ unfitted_fault s g.number

-- each glyph is drawn by its fitter
abbrev pub AreDrawn : (ℕ → Fitter) → List Glyph → Type 0
AreDrawn maker gs = All (λ g. IsDrawn (maker g.number) g) gs

-- for each glyph of the font 0, or one more than its place among some numbers
pub record ArePlaces (table numbers : List ℕ) : Type 0 where
  pub within : (n : ℕ) → slice_index table n ≤ length numbers
  pub found : (n : ℕ) → 0 < slice_index table n → slice_index numbers (slice_index table n - 1) ≡ n
  pub there : (i : ℕ) → i < length numbers → slice_index table (slice_index numbers i) ≡ i + 1
