-- Laws of ink. The box of a measure is the least that holds a line's black pixels, those outside of the picture too. A
-- grown picture is refused exactly where its measure is. It cuts no ink, and no smaller picture does so.
use Rattle.std.specs.Prelude.{◌≡◌, refl, ℕ, ◌<◌, ◌||◌, Bool, true, false, ℤ, pos, negsuc, ◌+ℤ◌, ◌-ℤ◌, ◌≤ℤ◌, ◌<ℤ◌, List, [], ◌∷◌, Option, Some, None, Ok, Err, ◌↔◌, ◌⊎◌, map}
use Rattle.tt_fit.specs.Fitting.{Fitter}
use Rattle.tt_line.specs.Layout.{Placement}
use Rattle.tt_scan_edges.specs.declared.edge.Edge.{Edge}
use Rattle.tt_scan_edges.specs.declared.edge.Frame.{Frame}
use Rattle.tt_scan_edges.specs.Winding.{column_x, row_y}
use Rattle.tt_scan_dropouts.specs.declared.boxed.BoxedRules.{BoxedRules}
use Rattle.tt_strike.specs.Grown.{grown_measured, grown_outcome, grown_placement, with_sides}
use Rattle.tt_strike.specs.Job.{Job}
use Rattle.tt_strike.specs.Measures.{Measure, measured_line}
use Rattle.tt_strike.specs.Picture.{frame_of, laid_out, setting_in, shapes_in}
use Rattle.tt_glyph_pixels.specs.Shown.{is_filled}
use Rattle.tt_picture.specs.Pixels.{Shape, is_black_pixel, some_black}
use Rattle.tt_strike.specs.Refusals.{Refused}
use Rattle.tt_face.specs.Faces.{Face}
use Rattle.tt_strike.specs.declared.growing.Sides.{Sides}
use Rattle.tt_picture.specs.declared.ink_box.InkBox.{InkBox}
use Rattle.tt_scan_gaps.specs.Gaps.{gives_way}

-- a row's line, counted upwards from the base line
abbrev pub line_of : Frame → ℤ → ℤ
line_of f r = ((f.rise +ℤ pos f.margin) -ℤ pos 1) -ℤ r

-- dropouts of some glyphs have column c of line j
abbrev pub some_dropout : List Shape → ℤ → ℤ → Bool
some_dropout [] c j = false
some_dropout (s ∷ ss) c j = is_filled s.filled s.contours c j || some_dropout ss c j

-- the pixel at column c and row r of a picture is black, or would be black in a larger picture
abbrev pub is_ink : Frame → List Shape → ℤ → ℤ → Bool
is_ink f glyphs c r =
    some_black glyphs (column_x f.margin c) (row_y f r) || some_dropout glyphs (c -ℤ pos f.margin) (line_of f r)

-- a box holds column c of row r
pub record Holds (b : InkBox) (c r : ℤ) : Type 0 where
  pub left : b.left ≤ℤ c
  pub top : b.top ≤ℤ r
  pub right : c ≤ℤ b.right
  pub bottom : r ≤ℤ b.bottom

-- the least box of black pixels: it holds them all, and each of its sides has one
pub record IsLeast (black : ℤ → ℤ → Bool) (b : InkBox) : Type 0 where
  pub within : (c r : ℤ) → black c r ≡ true → Holds b c r
  pub left : (r : ℤ) × (black b.left r ≡ true)
  pub top : (c : ℤ) × (black c b.top ≡ true)
  pub right : (r : ℤ) × (black b.right r ≡ true)
  pub bottom : (c : ℤ) × (black c b.bottom ≡ true)

-- the box of black pixels; None where nothing is black
abbrev pub IsBoxOf : (ℤ → ℤ → Bool) → Option InkBox → Type 0
IsBoxOf black None = (c r : ℤ) → black c r ≡ false
IsBoxOf black (Some b) = IsLeast black b

-- these are the glyphs of a laid-out line
pub record AreGlyphs (face : Face) (a : Job) (line : Placement) (glyphs : List Shape) : Type 0 where
  pub setting : Fitter
  pub made : setting_in face a ≡ Ok setting
  pub fitted : shapes_in setting line ≡ Ok glyphs

-- the ink within a picture is its black pixels
abbrev pub InkIsDrawn : Type 0
InkIsDrawn = (f : Frame) (glyphs : List Shape) (c r : ℕ)
    → is_ink f glyphs (pos c) (pos r) ≡ is_black_pixel f glyphs c r

-- the box of a measure is the least that holds all ink of the line
abbrev pub MeasureHoldsInk : Type 0
MeasureHoldsInk = (face : Face) (a : Job) (line : Placement) (m : Measure) (glyphs : List Shape)
    → measured_line face a line ≡ Ok m → AreGlyphs face a line glyphs
    → IsBoxOf (is_ink (frame_of line a.margin) glyphs) m.ink

-- a text's grown picture is refused exactly where its measure is, and for the same reason
abbrev pub GrownMeasuredAsDrawn : Type 0
GrownMeasuredAsDrawn = (face : Face) (a : Job) (r : Refused) → grown_outcome face a ≡ Err r ↔ grown_measured face a ≡ Err r

-- column c of row r is in a line's picture
pub record IsInPicture (line : Placement) (c r : ℤ) : Type 0 where
  pub left : pos 0 ≤ℤ c
  pub top : pos 0 ≤ℤ r
  pub right : c <ℤ pos line.width
  pub bottom : r <ℤ pos line.height

-- no ink of a grown picture lies outside of it
abbrev pub GrownCutsNone : Type 0
GrownCutsNone = (face : Face) (a : Job) (line : Placement) (glyphs : List Shape) (c r : ℤ)
    → grown_placement face a ≡ Ok line → AreGlyphs face a line glyphs
    → is_ink (frame_of line a.margin) glyphs c r ≡ true → IsInPicture line c r

-- each side that is added to a picture has ink in its outermost column or row
pub record AreNeeded (s : Sides) (line : Placement) (black : ℤ → ℤ → Bool) : Type 0 where
  pub left : 0 < s.left → (r : ℤ) × (black (pos 0) r ≡ true)
  pub top : 0 < s.top → (c : ℤ) × (black c (pos 0) ≡ true)
  pub right : 0 < s.right → (r : ℤ) × (black (pos line.width -ℤ pos 1) r ≡ true)
  pub bottom : 0 < s.bottom → (c : ℤ) × (black c (pos line.height -ℤ pos 1) ≡ true)

-- a grown picture is the plain one, or that with the fewest columns and rows added on each side
abbrev pub GrownAddsFewest : Type 0
GrownAddsFewest = (face : Face) (a : Job) (plain line : Placement) (glyphs : List Shape)
    → laid_out face a ≡ Ok plain → grown_placement face a ≡ Ok line → AreGlyphs face a line glyphs
    → (line ≡ plain) ⊎ ((s : Sides) × (line ≡ with_sides plain s)
    × AreNeeded s line (is_ink (frame_of line a.margin) glyphs))

-- worked values: a picture of one pixel on the base line. An upright edge in the next column, through that pixel's row
-- and the row above it
one_pixel : Frame
one_pixel = record { width = 1; height = 1; margin = 0; rise = pos 1 }

upright : List Shape
upright =
    let edges : List Edge = record { ax = pos 12288; ay = pos 0; bx = pos 12288; by = pos 16384 } ∷ [] in
    record { edges = edges; contours = edges ∷ []; filled = None } ∷ []

-- in the next column: its own row, the two above it, and the one below it
ink_on_the_right : map (is_ink one_pixel upright (pos 1)) (pos 0 ∷ negsuc 0 ∷ negsuc 1 ∷ pos 1 ∷ [])
    ≡ true ∷ true ∷ false ∷ false ∷ []
unfolding one_pixel upright
ink_on_the_right = refl

none_inside : is_ink one_pixel upright (pos 0) (pos 0) ≡ false
unfolding one_pixel upright
none_inside = refl

one_column_more : is_ink (record one_pixel { margin = 1 }) upright (pos 2) (pos 0) ≡ true
unfolding one_pixel upright
one_column_more = refl

-- a stem between the centres of columns 0 and 1, all above the picture: its ink is dropouts
stem_side : ℕ → ℕ → ℕ → ℕ → Edge
stem_side ax ay bx by = record { ax = pos ax; ay = pos ay; bx = pos bx; by = pos by }

stem : Option BoxedRules → List Shape
stem filled =
    let edges : List Edge = stem_side 5120 8192 5120 24576 ∷ stem_side 5120 24576 7168 24576 ∷ stem_side 7168 24576 7168 8192
    ∷ stem_side 7168 8192 5120 8192 ∷ [] in
    record { edges = edges; contours = edges ∷ []; filled = filled } ∷ []

by_type_zero : Option BoxedRules
by_type_zero = Some (record {
  rules = record { stubs = true; smart = false; dots = false };
  extents = record { across = record { low = pos 5120; high = pos 7168 }; up = record { low = pos 8192; high = pos 24576 } };
})

dropout_above : is_ink one_pixel (stem by_type_zero) (pos 0) (negsuc 1) ≡ true
unfolding gives_way one_pixel stem stem_side by_type_zero
dropout_above = refl

unfilled_above : is_ink one_pixel (stem None) (pos 0) (negsuc 1) ≡ false
unfolding one_pixel stem stem_side
unfilled_above = refl
