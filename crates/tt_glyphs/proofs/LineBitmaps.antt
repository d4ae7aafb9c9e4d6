-- The black pixels of a line's picture are those of its glyphs' bitmaps at the pens of the line.
use Rattle.std.proofs.Common.{◌≡◌, ◌∙◌, refl, sym, ap, ap₂, ℕ, Bool, true, false, ◌&&◌, ◌||◌, ℤ, pos, ◌+ℤ◌, ◌-ℤ◌, ◌≤ℤ◌, ◌<ℤ◌, int_le, int_lt, List, [], ◌∷◌, map, Option, None, Some, Result, Ok, arith}
use Rattle.std.proofs.lemmas.Int.{ints}
use Rattle.tt_core.specs.Chains.{came-through}
use Rattle.tt_core.specs.Faults.{Fault}
use Rattle.tt_core.specs.Outcomes.{each}
use Rattle.tt_face.specs.Faces.{Face}
use Rattle.tt_fit.specs.Fitting.{Fitter, fitted_outline}
use Rattle.tt_fit.specs.outline.Outline.{Outline}
use Rattle.tt_line.specs.Layout.{Placement}
use Rattle.tt_picture.specs.Ink.{glyph_ink}
use Rattle.tt_picture.specs.Pictures.{Image, image, picture}
use Rattle.tt_glyph_pixels.specs.Shown.{is_filled}
use Rattle.tt_picture.specs.Pixels.{Shape, is_black_pixel, some_black, some_filled}
use Rattle.tt_picture.specs.Shapes.{chords_with, edges_at, filled_by, glyph_shape, shape_at}
use Rattle.tt_picture.proofs.Alike.{image_alike}
use Rattle.tt_picture.proofs.Standings.{filled_from_pen, from_pen}
use Rattle.tt_scan_dropouts.specs.Pictures.{column_at, line_at}
use Rattle.tt_scan_edges.specs.declared.edge.Frame.{Frame}
use Rattle.tt_scan_edges.specs.Winding.{column_x, is_black, row_y}
use Rattle.tt_scan_gaps.specs.Crossings.{centre}
use Rattle.tt_bitmap.specs.Inks.{IsInk}
use Rattle.tt_bitmap.specs.declared.ink.LeastBox.{LeastBox}
use Rattle.tt_strike.specs.Job.{Job}
use Rattle.tt_strike.specs.Picture.{drawn, edges_tested, frame_of, line_shapes, points_tested, setting_in, shapes_in}
use Rattle.tt_strike.specs.Refusals.{as_font, as_job}
use Rattle.tt_strike.specs.Work.{line_fitter}
use Rattle.tt_strike.proofs.Placed.{of-font}
use Rattle.tt_glyphs.specs.Bitmaps.{is_black_at, place_of}
use Rattle.tt_glyphs.specs.GlyphLaws.{LinesAreBitmaps, entry_shows, lies_in, some_entry_shows}
use Rattle.tt_glyphs.proofs.DrawnGlyphs.{filled_here}
use Rattle.tt_glyphs.proofs.LeastBitmaps.{BoxLaws, ink_of, outline_black, outline_held}

-- a black pixel lies in the place of the ink

pub le_true : (a b : ℤ) → a ≤ℤ b → int_le a b ≡ true
le_true a b is = grind (arith, ints, is)

pub lt_true : (a b : ℤ) → a <ℤ b → int_lt a b ≡ true
lt_true a b is = grind (arith, ints, is)

within_place : (black : ℤ → ℤ → Bool) (x : Option LeastBox) (k j : ℤ) → IsInk black x → black k j ≡ true
    → lies_in (place_of x) k j ≡ true
within_place black None k j ink dark = let white = sym (ink k j) ∙ dark in absurd cc
within_place black (Some b) k j ink dark =
    let p = place_of (Some b) in
    let inside = ink.within k j dark in
    let left = le_true p.left k inside.left in
    let right = lt_true k (p.left +ℤ pos p.width) (omega (arith, ints, inside.left, inside.right)) in
    let bottom = le_true (p.top -ℤ pos p.height) j (omega (arith, ints, inside.bottom, inside.top)) in
    let top = lt_true j p.top (omega (arith, ints, inside.top)) in
    rw (left, right, bottom, top) refl

both_by : (inside dark : Bool) → (dark ≡ true → inside ≡ true) → (inside && dark) ≡ dark
both_by true dark lies = refl
both_by false true lies = lies refl
both_by false false lies = refl

-- one glyph at a pen of a picture

edges_there : (f : Frame) (s : Fitter) (o : Outline) (pen c r : ℕ)
    → is_black (edges_at (chords_with s) pen o) (column_x f.margin (pos c)) (row_y f (pos r))
    ≡ is_black (edges_at (chords_with s) 0 o) (centre (column_at f pen c)) (centre (line_at f r))
edges_there f s o pen c r =
    let way = chords_with s in
    let column : column_x f.margin (pos c -ℤ pos pen) ≡ centre (column_at f pen c) = omega (arith, ints) in
    let row : row_y f (pos r) ≡ centre (line_at f r) = omega (arith, ints) in
    from_pen f.margin way o pen (pos c) (row_y f (pos r))
    ∙ ap (λ x. is_black (edges_at way 0 o) x (row_y f (pos r))) column
    ∙ ap (is_black (edges_at way 0 o) (centre (column_at f pen c))) row

shape_there : (f : Frame) (s : Fitter) (g : ℕ × ℕ) (o : Outline) (c r : ℕ)
    → (is_black (shape_at s g o).edges (column_x f.margin (pos c)) (row_y f (pos r))
    || is_filled (shape_at s g o).filled (shape_at s g o).contours (column_at f 0 c) (line_at f r))
    ≡ outline_black (filled_by s g.0 o) (chords_with s) o (column_at f g.1 c) (line_at f r)
shape_there f s g o c r =
    ap₂ (λ a b. a || b) (edges_there f s o g.1 c r) (sym (filled_from_pen (filled_by s g.0 o) f (chords_with s) o g.1 c r))

bitmap_black : (s : Fitter) (g : ℕ) (o : Outline) (k j : ℤ)
    → is_black_at (shape_at s (g, 0) o) k j ≡ outline_black (filled_by s g o) (chords_with s) o k j
bitmap_black s g o k j =
    ap (λ dark. is_black (edges_at (chords_with s) 0 o) (centre k) (centre j) || dark) (filled_here (filled_by s g o) (chords_with s) o k j)

entry_is : BoxLaws → (f : Frame) (s : Fitter) (g : ℕ × ℕ) (o : Outline) (c r : ℕ) → fitted_outline s g.0 ≡ Ok o
    → entry_shows s f g c r ≡ outline_black (filled_by s g.0 o) (chords_with s) o (column_at f g.1 c) (line_at f r)
entry_is laws f s g o c r made =
    let black = outline_black (filled_by s g.0 o) (chords_with s) o in
    let k = column_at f g.1 c in
    let j = line_at f r in
    let ink : IsInk black (glyph_ink s g.0) = rw (ink_of s g.0 o made) (outline_held laws s g.0 o) in
    rw made (ap (λ dark. lies_in (place_of (glyph_ink s g.0)) k j && dark) (bitmap_black s g.0 o k j)
    ∙ both_by (lies_in (place_of (glyph_ink s g.0)) k j) (black k j) (within_place black (glyph_ink s g.0) k j ink))

-- all glyphs of a line

pub record First (maker : ℕ → Fitter) (g : ℕ × ℕ) (gs : List (ℕ × ℕ)) (shapes : List Shape) : Type 0 where
  pub outline : Outline
  pub rest : List Shape
  pub fitted : fitted_outline (maker g.0) g.0 ≡ Ok outline
  pub others : each (glyph_shape maker) gs ≡ Ok rest
  pub all : shapes ≡ shape_at (maker g.0) g outline ∷ rest

pub first_of : (maker : ℕ → Fitter) (g : ℕ × ℕ) (gs : List (ℕ × ℕ)) (shapes : List Shape)
    → each (glyph_shape maker) (g ∷ gs) ≡ Ok shapes → First maker g gs shapes
first_of maker g gs shapes made =
    let one = came-through (glyph_shape maker g) _ shapes made in
    let rest = came-through (each (glyph_shape maker) gs) _ shapes one.rest in
    let o = came-through (fitted_outline (maker g.0) g.0) _ one.value one.first in
    let here : ◌≡◌ {A = Result Shape Fault} (Ok (shape_at (maker g.0) g o.value)) (Ok one.value) = o.rest in
    let both : ◌≡◌ {A = Result (List Shape) Fault} (Ok (one.value ∷ rest.value)) (Ok shapes) = rest.rest in
    record {
      outline = o.value;
      rest = rest.value;
      fitted = o.first;
      others = rest.first;
      all = cc;
    }

exchanged : (a b c d : Bool) → ((a || b) || (c || d)) ≡ ((a || c) || (b || d))
exchanged true b c d = refl
exchanged false true true d = refl
exchanged false true false d = refl
exchanged false false c d = refl

pixels_are : BoxLaws → (maker : ℕ → Fitter) (f : Frame) (gs : List (ℕ × ℕ)) (shapes : List Shape) (c r : ℕ)
    → each (glyph_shape maker) gs ≡ Ok shapes → is_black_pixel f shapes c r ≡ some_entry_shows maker f gs c r
pixels_are laws maker f [] shapes c r made = let none : shapes ≡ [] = cc in rw none refl
pixels_are laws maker f (g ∷ gs) shapes c r made =
    let one = first_of maker g gs shapes made in
    let s = maker g.0 in
    let shape = shape_at s g one.outline in
    let x = column_x f.margin (pos c) in
    let y = row_y f (pos r) in
    let k = column_at f 0 c in
    let j = line_at f r in
    ap (λ (ss : List Shape). is_black_pixel f ss c r) one.all
    ∙ exchanged (is_black shape.edges x y) (some_black one.rest x y) (is_filled shape.filled shape.contours k j) (some_filled f one.rest c r)
    ∙ ap₂ (λ a b. a || b) (shape_there f s g one.outline c r ∙ sym (entry_is laws f s g one.outline c r one.fitted))
    (pixels_are laws maker f gs one.rest c r one.others)

-- the picture of a line

same_setting : {E : Type 0} (r : Result Fitter E) (s t : Fitter) → r ≡ Ok s → r ≡ Ok t → s ≡ t
same_setting r s t one other = cc

ok_same : {X E : Type 0} (x y : X) → ◌≡◌ {A = Result X E} (Ok x) (Ok y) → x ≡ y
ok_same x y is = cc

pub record IsOfShapes (s : Fitter) (line : Placement) (margin : ℕ) (i : Image) : Type 0 where
  pub shapes : List Shape
  pub made : shapes_in s line ≡ Ok shapes
  pub pictured : i ≡ picture (frame_of line margin) shapes

pub of_shapes : (face : Face) (a : Job) (line : Placement) (s : Fitter) (i : Image) → setting_in face a ≡ Ok s
    → drawn face a line ≡ Ok i → IsOfShapes s line a.margin i
unfolding drawn
of_shapes face a line s i made is =
    let by_setting = came-through (as_font (setting_in face a)) _ i is in
    let other = by_setting.value in
    let by_shapes = came-through (line_shapes other a line) _ i by_setting.rest in
    let same = same_setting (setting_in face a) s other made (of-font (setting_in face a) other by_setting.first) in
    let points = came-through (as_job (points_tested other a line)) _ by_shapes.value by_shapes.first in
    let shapes = came-through (as_font (shapes_in other line)) _ by_shapes.value points.rest in
    let edges = came-through (as_job (edges_tested other a line shapes.value)) _ by_shapes.value shapes.rest in
    let all : shapes.value ≡ by_shapes.value = ok_same shapes.value by_shapes.value edges.rest in
    record {
      shapes = shapes.value;
      made = rw same (of-font (shapes_in other line) shapes.value shapes.first);
      pictured = sym (ok_same (picture (frame_of line a.margin) by_shapes.value) i by_shapes.rest)
          ∙ ap (picture (frame_of line a.margin)) (sym all);
    }

-- however the line is laid out
pub drawn_is_bitmaps : BoxLaws → (face : Face) (a : Job) (line : Placement) (s : Fitter) (i : Image) → setting_in face a ≡ Ok s
    → drawn face a line ≡ Ok i
    → i ≡ image (frame_of line a.margin) (some_entry_shows (line_fitter s (map (λ g. g.0) line.glyphs)) (frame_of line a.margin) line.glyphs)
drawn_is_bitmaps laws face a line s i made is =
    let f = frame_of line a.margin in
    let maker = line_fitter s (map (λ (g : ℕ × ℕ). g.0) line.glyphs) in
    let of = of_shapes face a line s i made is in
    of.pictured ∙ image_alike f (is_black_pixel f of.shapes) (some_entry_shows maker f line.glyphs)
    (λ c r column row. pixels_are laws maker f line.glyphs of.shapes c r of.made)

pub lines_are_bitmaps : BoxLaws → LinesAreBitmaps
lines_are_bitmaps laws face a line s i laid made is = drawn_is_bitmaps laws face a line s i made is
