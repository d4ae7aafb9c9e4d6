-- Laws of the definitions of bitmaps, as statements; src/laws.rt proves them.
use Rattle.std.specs.Prelude.{◌≡◌, ℕ, ◌+◌, ◌<◌, ◌≤◌, Bool, true, false, ◌&&◌, ◌||◌, ℤ, pos, ◌+ℤ◌, ◌-ℤ◌, ◌≤ℤ◌, ◌<ℤ◌, int_le, int_lt, List, [], ◌∷◌, length, get_or, map, All, ◌↔◌, None, Result, Ok, Err}
use Rattle.tt_core.specs.Faults.{Fault}
use Rattle.tt_core.specs.Limits.{height_limit, width_limit}
use Rattle.tt_face.specs.Faces.{Face}
use Rattle.tt_fit.specs.declared.programs.Fit.{Fit}
use Rattle.tt_fit.specs.Fitting.{Fitter, fitted_outline}
use Rattle.tt_fit.specs.outline.Outline.{Outline}
use Rattle.tt_line.specs.Layout.{Placement}
use Rattle.tt_metrics.specs.Metrics.{glyphs_of}
use Rattle.tt_picture.specs.Ink.{column_of, glyph_ink, row_of}
use Rattle.tt_picture.specs.Pictures.{Image, image}
use Rattle.tt_picture.specs.Shapes.{shape_at}
use Rattle.tt_scan_dropouts.specs.Pictures.{column_at, line_at}
use Rattle.tt_scan_edges.specs.declared.edge.Frame.{Frame}
use Rattle.tt_strike.specs.Job.{Job}
use Rattle.tt_strike.specs.Picture.{drawn, frame_of, laid_out, setting_in}
use Rattle.tt_strike.specs.Work.{line_fitter}
use Rattle.tt_glyphs.specs.Bitmaps.{bitmap_pixel, is_black_at, place_of}
use Rattle.tt_glyphs.specs.declared.place.InkPlace.{InkPlace}
use Rattle.tt_glyphs.specs.declared.told.GlyphEntry.{GlyphEntry}
use Rattle.tt_glyphs.specs.declared.told.MadeBitmap.{MadeBitmap}
use Rattle.tt_glyphs.specs.declared.told.Told.{Told}
use Rattle.tt_glyphs.specs.declared.told.Told.TheVariants as told
use Rattle.tt_glyphs.specs.Entries.{all_rows, bytes_wanted, entries, glyph_told, number_told}
use Rattle.tt_glyphs.specs.Requests.{Bitmaps, GlyphJob, bitmaps_answer, bitmaps_outcome, done, small}

-- a column and a line, counted from a pen, lie in the place of a glyph's ink
abbrev pub lies_in : InkPlace → ℤ → ℤ → Bool
lies_in p column line =
    (int_le p.left column && int_lt column (p.left +ℤ pos p.width)) && (int_le (p.top -ℤ pos p.height) line && int_lt line p.top)

-- the bitmap of a glyph blackens column c of row r of a picture from a pen: the pixel lies in the place of the ink, and is
-- black there
abbrev pub outline_shows : Fitter → Frame → ℕ × ℕ → ℕ → ℕ → Result Outline Fault → Bool
outline_shows s f g c r (Err fault) = false
outline_shows s f g c r (Ok o) =
    lies_in (place_of (glyph_ink s g.0)) (column_at f g.1 c) (line_at f r)
    && is_black_at (shape_at s (g.0, 0) o) (column_at f g.1 c) (line_at f r)

abbrev pub entry_shows : Fitter → Frame → ℕ × ℕ → ℕ → ℕ → Bool
entry_shows s f g c r = outline_shows s f g c r (fitted_outline s g.0)

abbrev pub some_entry_shows : (ℕ → Fitter) → Frame → List (ℕ × ℕ) → ℕ → ℕ → Bool
some_entry_shows maker f [] c r = false
some_entry_shows maker f (g ∷ gs) c r = entry_shows (maker g.0) f g c r || some_entry_shows maker f gs c r

-- lines are made of bitmaps: the picture of a laid-out line has the black pixels of its glyphs' bitmaps at the pens of
-- the line, and no others
abbrev pub LinesAreBitmaps : Type 0
LinesAreBitmaps = (face : Face) (a : Job) (line : Placement) (s : Fitter) (i : Image)
    → laid_out face a ≡ Ok line → setting_in face a ≡ Ok s → drawn face a line ≡ Ok i
    → i ≡ image (frame_of line a.margin) (some_entry_shows (line_fitter s (map (λ g. g.0) line.glyphs)) (frame_of line a.margin) line.glyphs)

abbrev pub IsMade : Told → Type 0
IsMade told.Unknown = ⊥
IsMade (told.Broken fault) = ⊥
IsMade told.Large = ⊥
IsMade (told.Made m) = Unit {0}

-- and each of these glyphs is made, if the ink of all lies in the picture, which is no larger than a picture may be
abbrev pub IsWithin : Frame → ℕ → InkPlace → Type 0
IsWithin f pen p = (c j : ℤ) → lies_in p c j ≡ true
    → (pos 0 ≤ℤ column_of f pen c) × (column_of f pen c <ℤ pos f.width) × (pos 0 ≤ℤ row_of f j) × (row_of f j <ℤ pos f.height)

abbrev pub LinesAreMade : Type 0
LinesAreMade = (face : Face) (a : Job) (line : Placement) (s : Fitter) (i : Image)
    → laid_out face a ≡ Ok line → setting_in face a ≡ Ok s → drawn face a line ≡ Ok i
    → line.width ≤ width_limit → line.height ≤ height_limit → All (λ g. g.0 < glyphs_of s.metrics) line.glyphs
    → All (λ g. IsWithin (frame_of line a.margin) g.1 (place_of (glyph_ink (line_fitter s (map (λ g. g.0) line.glyphs) g.0) g.0))) line.glyphs
    → All (λ g. IsMade (number_told a.fit s (map (λ g. g.0) line.glyphs) g.0)) line.glyphs

-- equal numbers have equal entries
abbrev pub RepeatsAreEqual : Type 0
RepeatsAreEqual = (how : Fit) (s : Fitter) (gs : List ℕ) (i j : ℕ) (e : GlyphEntry) → i < length gs → j < length gs
    → get_or gs i 0 ≡ get_or gs j 0 → get_or (entries how s gs) i e ≡ get_or (entries how s gs) j e

-- where work is not bounded, the report of a number does not depend on the other numbers
abbrev pub OrderChangesNothing : Type 0
OrderChangesNothing = (how : Fit) (s : Fitter) (gs hs : List ℕ) (g : ℕ) → s.work ≡ None
    → number_told how s gs g ≡ number_told how s hs g

-- a room is large enough exactly where it has the bytes that are wanted
abbrev pub RoomIsExact : Type 0
RoomIsExact = (room : ℕ) (face : Face) (a : GlyphJob) (b : Bitmaps) → bitmaps_outcome face a ≡ Ok b
    → ((bitmaps_answer room face a ≡ Ok (done b)) ↔ (b.wanted ≤ room))
    × (room < b.wanted → bitmaps_answer room face a ≡ Ok (small b.wanted))

-- the rows have as many bytes as are wanted
abbrev pub RowsAreCounted : Type 0
RowsAreCounted = (how : Fit) (s : Fitter) (gs : List ℕ) → length (all_rows how s gs) ≡ bytes_wanted how s gs

-- each side of a bitmap has a black pixel
pub record HasInkAtSides (w h : ℕ) (black : ℕ → ℕ → Bool) : Type 0 where
  pub first_column : (r : ℕ) × (r < h) × (black 0 r ≡ true)
  pub last_column : (r : ℕ) × (c : ℕ) × (r < h) × (c + 1 ≡ w) × (black c r ≡ true)
  pub first_row : (c : ℕ) × (c < w) × (black c 0 ≡ true)
  pub last_row : (c : ℕ) × (r : ℕ) × (c < w) × (r + 1 ≡ h) × (black c r ≡ true)

abbrev pub BitmapsAreLeast : Type 0
BitmapsAreLeast = (how : Fit) (s : Fitter) (g : ℕ) (m : MadeBitmap) (o : Outline)
    → glyph_told how s g ≡ told.Made m → fitted_outline s g ≡ Ok o → 0 < m.place.width
    → HasInkAtSides m.place.width m.place.height (bitmap_pixel (shape_at s (g, 0) o) m.place)
