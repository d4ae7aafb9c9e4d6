-- No part of the standard: a glyph that is drawn, whose rows are made of its bitmap, or of its edges and dropouts.
use Rattle.std.specs.Prelude.{◌≡◌, ℕ, ◌+◌, ◌*◌, ◌^◌, ◌<◌, ◌≤◌, Bool, ◌&&◌, ◌||◌, ℤ, pos, ◌+ℤ◌, ◌-ℤ◌, ◌≤ℤ◌, ◌<ℤ◌, unsigned_abs, List, [], length, Option, Some, None, Ok}
use Rattle.std.specs.Ordering.{int_eq}
use Rattle.tt_core.specs.Bits.{stride}
use Rattle.tt_core.specs.Limits.{height_limit, width_limit}
use Rattle.tt_bitmap.specs.Bitmaps as bitmaps
use Rattle.tt_fit.specs.declared.programs.Fit.{Fit}
use Rattle.tt_face.specs.Faces.{glyphs_in}
use Rattle.tt_fit.specs.Fitting.{Fitter}
use Rattle.tt_picture.specs.declared.fitting.LineLimits.{LineLimits}
use Rattle.tt_picture.specs.Rows.{rows}
use Rattle.tt_scan_dropouts.specs.declared.pixel.Pixel.{Pixel}
use Rattle.tt_scan_dropouts.specs.declared.window.Window.{Window}
use Rattle.tt_scan_dropouts.specs.Pictures.{AreDropouts, is_among}
use Rattle.tt_scan_edges.specs.declared.edge.Frame.{Frame}
use Rattle.tt_scan_edges.specs.Winding.{is_black}
use Rattle.tt_scan_gaps.specs.Crossings.{centre}
use Rattle.tt_strike.specs.declared.source.FitterSource.{FitterSource}
use Rattle.tt_glyphs.specs.Bitmaps.{place_bytes}
use Rattle.tt_glyphs.specs.declared.drawing.DrawnGlyph.{DrawnGlyph}
use Rattle.tt_glyphs.specs.declared.edged.EdgedOutline.{EdgedOutline}
use Rattle.tt_glyphs.specs.declared.place.InkPlace.{InkPlace}
use Rattle.tt_glyphs.specs.declared.small.SmallRows.{SmallRows}
use Rattle.tt_glyphs.specs.declared.told.Told.{Told}
use Rattle.tt_glyphs.specs.declared.written.GlyphRows.{GlyphRows}
use Rattle.tt_glyphs.specs.declared.written.GlyphRows.TheVariants as made
use Rattle.tt_glyphs.specs.Edged.{inked_by}
use Rattle.tt_glyphs.specs.Entries.{ToldFits, glyph_told, told_bytes, told_rows}
use Rattle.tt_glyphs.specs.Large.{LargeRows}

-- a place with ink, of a bitmap that is not too large
pub record IsInked (p : InkPlace) : Type 0 where
  pub some : 1 ≤ p.width
  pub high : 1 ≤ p.height
  pub width : p.width ≤ width_limit
  pub height : p.height ≤ height_limit
  pub left : unsigned_abs p.left < 2 ^ 18
  pub top : unsigned_abs p.top ≤ 2 ^ 18

-- column c and row r of a place's rows, counted from the pen and the base line
abbrev pub column_of : InkPlace → ℕ → ℤ
column_of p c = p.left +ℤ pos c

abbrev pub line_of : InkPlace → ℕ → ℤ
line_of p r = (p.top -ℤ pos 1) -ℤ pos r

abbrev pub frame_of : InkPlace → Frame
frame_of p = record { width = p.width; height = p.height; margin = 0; rise = p.top }

-- the pixels of a place, counted from the pen and the base line
abbrev pub window_by : InkPlace → Window
window_by p = record { left = p.left; bottom = p.top -ℤ pos p.height; width = p.width; height = p.height }

pub record IsPixelIn (p : InkPlace) (pixel : Pixel) : Type 0 where
  pub left : p.left ≤ℤ pixel.column
  pub right : pixel.column <ℤ (p.left +ℤ pos p.width)
  pub bottom : (p.top -ℤ pos p.height) ≤ℤ pixel.row
  pub top : pixel.row <ℤ p.top

abbrev pub is_pixel_of : InkPlace → Pixel → ℕ → ℕ → Bool
is_pixel_of p pixel c r = int_eq pixel.column (column_of p c) && int_eq pixel.row (line_of p r)

-- row r of the pixels in a place, and all rows
abbrev pub row_in : InkPlace → (ℕ → ℕ → Bool) → ℕ → List ℕ
row_in p black r = rows p.width black (stride p.width * r) (stride p.width)

abbrev pub rows_in : InkPlace → (ℕ → ℕ → Bool) → List ℕ
rows_in p black = rows p.width black 0 (place_bytes p)

-- the pixels of a glyph's edges and of its dropouts, in a place
abbrev pub edged_pixel : EdgedOutline → InkPlace → ℕ → ℕ → Bool
edged_pixel e p c r = inked_by e (column_of p c) (line_of p r)

-- the rows of a glyph's ink by its bitmap
abbrev pub small_pixel : SmallRows → ℕ → ℕ → Bool
small_pixel b c r = bitmaps.is_black b.bitmap (column_of b.place c) (line_of b.place r)

abbrev pub small_rows : SmallRows → List ℕ
small_rows b = rows_in b.place (small_pixel b)

-- by its edges and its dropouts
abbrev pub large_pixel : LargeRows → ℕ → ℕ → Bool
large_pixel b c r =
    is_black b.edges (centre (column_of b.place c)) (centre (line_of b.place r)) || is_among b.dropouts c r

abbrev pub large_row : LargeRows → ℕ → List ℕ
large_row b r = row_in b.place (large_pixel b) r

abbrev pub large_rows : LargeRows → List ℕ
large_rows b = rows_in b.place (large_pixel b)

pub record LargeFits (b : LargeRows) : Type 0 where
  pub place : IsInked b.place
  pub frame : b.frame ≡ frame_of b.place
  pub few : length b.edges ≤ 2 ^ 19
  pub dropouts : AreDropouts b.place.width b.dropouts

-- the place of rows, the edges that they are made of, and the rows
abbrev pub place_by : GlyphRows → InkPlace
place_by (made.Small b) = b.place
place_by (made.Large b) = b.place

abbrev pub edges_by : GlyphRows → ℕ
edges_by (made.Small b) = 0
edges_by (made.Large b) = length b.edges

abbrev pub rows_by : GlyphRows → List ℕ
rows_by (made.Small b) = small_rows b
rows_by (made.Large b) = large_rows b

-- the rows are still to be made
abbrev pub RowsFit : GlyphRows → Type 0
RowsFit (made.Small b) = IsInked b.place
RowsFit (made.Large b) = LargeFits b × (b.crosses ≡ 0)

-- the rows of a drawn glyph, and the edges that they are made of
abbrev pub some_rows : Option GlyphRows → List ℕ
some_rows None = []
some_rows (Some b) = rows_by b

abbrev pub drawn_rows : DrawnGlyph → List ℕ
drawn_rows d = some_rows d.bitmap

abbrev pub some_edges : Option GlyphRows → ℕ
some_edges None = 0
some_edges (Some b) = edges_by b

abbrev pub drawn_edges : DrawnGlyph → ℕ
drawn_edges d = some_edges d.bitmap

-- a bitmap has the place of its report, and its rows are still to be made
abbrev pub HasBitmap : Told → Option GlyphRows → Type 0
HasBitmap t None = told_bytes t ≡ 0
HasBitmap t (Some b) = RowsFit b × (told_bytes t ≡ place_bytes (place_by b))

pub record DrawnFits (d : DrawnGlyph) : Type 0 where
  pub told : ToldFits d.told
  pub bitmap : HasBitmap d.told d.bitmap

-- a glyph that is drawn by its fitter
pub record IsDrawn (how : Fit) (s : Fitter) (d : DrawnGlyph) : Type 0 where
  pub told : d.told ≡ glyph_told how s d.number
  pub rows : drawn_rows d ≡ told_rows s d.number d.told

-- what is left of some limits after so many chords and crossings
abbrev pub IsLeft : Option LineLimits → ℕ → ℕ → Option LineLimits → Type 0
IsLeft None chords crossings rest = rest ≡ None
IsLeft (Some l) chords crossings rest =
    (r : LineLimits) × (rest ≡ Some r) × (l.chords ≡ r.chords + chords) × (l.crossings ≡ r.crossings + crossings)

-- a fitter of this source
pub record IsSourceOf (z : FitterSource) (s : Fitter) : Type 0 where
  pub metrics : s.metrics ≡ z.face.now.metrics
  pub ppem : s.ppem ≡ z.ppem
  pub instance : s.instance ≡ z.face.now.instance
  pub tables : glyphs_in z.face.now ≡ Ok s.tables
