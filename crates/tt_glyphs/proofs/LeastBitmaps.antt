-- Each side of a bitmap has a black pixel.
use Rattle.std.proofs.Common.{◌≡◌, ◌∙◌, refl, sym, ap, subst, ℕ, ◌+◌, ◌<◌, Bool, true, false, ◌||◌, ℤ, pos, ◌+ℤ◌, ◌-ℤ◌, unsigned_abs, List, Option, None, Some, Ok, arith}
use Rattle.std.specs.Prelude.{IfSome}
use Rattle.std.proofs.lemmas.Int.{ints}
use Rattle.tt_arc.proofs.PointsBox.{box_holds_edges}
use Rattle.tt_arc.specs.Laws.{ContoursAreClosed, ContoursJoined}
use Rattle.tt_arc.specs.declared.rule.ChordRule.{ChordRule}
use Rattle.tt_core.specs.Faults.{Fault}
use Rattle.tt_fit.specs.declared.dropouts.DropoutRules.{DropoutRules}
use Rattle.tt_fit.specs.Dropouts.{dropouts_of}
use Rattle.tt_fit.specs.Fitting.{Fitter, fitted_outline, unfitted_fault}
use Rattle.tt_fit.specs.outline.Outline.{Outline}
use Rattle.tt_picture.specs.Ink.{filled_ink, glyph_ink, ink_by}
use Rattle.tt_glyph_pixels.specs.Shown.{is_filled}
use Rattle.tt_picture.specs.Shapes.{chords_with, contours_of, edges_at, extents_of, filled_by, offset_at, rules_for, shape_at}
use Rattle.tt_scan_dropouts.specs.declared.boxed.BoxedRules.{BoxedRules}
use Rattle.tt_scan_edges.specs.declared.edge.Edge.{Edge}
use Rattle.tt_scan_edges.specs.Winding.{is_black}
use Rattle.tt_scan_gaps.specs.Boxes.{HoldsEdges}
use Rattle.tt_scan_gaps.specs.Crossings.{centre}
use Rattle.tt_scan_gaps.specs.declared.extent.Extents.{Extents}
use Rattle.tt_scan_ink.specs.Ink.{edges_ink}
use Rattle.tt_scan_ink.specs.Laws.{DropoutsInkHoldsAll, EdgesInkHoldsAll}
use Rattle.tt_bitmap.specs.Inks.{IsInBox, IsInk, IsLeastBox}
use Rattle.tt_bitmap.specs.declared.ink.LeastBox.{LeastBox}
use Rattle.tt_scan_ink.proofs.Together.{joined_is}
use Rattle.tt_glyphs.specs.Bitmaps.{bitmap_pixel, is_large, place_of}
use Rattle.tt_glyphs.specs.declared.place.InkPlace.{InkPlace}
use Rattle.tt_glyphs.specs.declared.told.MadeBitmap.{MadeBitmap}
use Rattle.tt_glyphs.specs.declared.told.Told.TheVariants as told
use Rattle.tt_glyphs.specs.Drawn.{column_of, line_of}
use Rattle.tt_picture.specs.Steps.{glyph_advance}
use Rattle.tt_glyphs.specs.Entries.{advance_by, made_within}
use Rattle.tt_glyphs.specs.GlyphLaws.{BitmapsAreLeast, HasInkAtSides}
use Rattle.tt_glyphs.proofs.DrawnGlyphs.{filled_here, told_is}

-- the laws of the crates below about boxes and contours
pub record BoxLaws : Type 0 where
  pub edges : EdgesInkHoldsAll
  pub dropouts : DropoutsInkHoldsAll
  pub closed : ContoursAreClosed
  pub joined : ContoursJoined

-- the black pixels of an outline at pen 0, and their box

abbrev pub outline_black : Option BoxedRules → ChordRule → Outline → ℤ → ℤ → Bool
outline_black filled way o c j =
    is_black (edges_at way 0 o) (centre c) (centre j) || is_filled filled (contours_of way 0 o) c j

edges_held : BoxLaws → (way : ChordRule) (o : Outline)
    → IsInk (λ c j. is_black (edges_at way 0 o) (centre c) (centre j)) (edges_ink (edges_at way 0 o))
edges_held laws way o =
    let from = offset_at 0 o in
    let P : List Edge → Type 0 = λ es. IsInk (λ c j. is_black es (centre c) (centre j)) (edges_ink es) in
    subst P (laws.joined way o.points o.ends from (pos 0))
    (laws.edges (contours_of way 0 o) (laws.closed way o.points o.ends from (pos 0)))

dropouts_held : BoxLaws → (way : ChordRule) (o : Outline) (filled : Option BoxedRules)
    → IfSome filled (λ rules. HoldsEdges rules.extents (edges_at way 0 o))
    → IsInk (is_filled filled (contours_of way 0 o)) (filled_ink filled (contours_of way 0 o))
dropouts_held laws way o None held = λ c j. refl
dropouts_held laws way o (Some rules) held =
    laws.dropouts rules (contours_of way 0 o)
    (subst (HoldsEdges rules.extents) (sym (laws.joined way o.points o.ends (offset_at 0 o) (pos 0))) held)

held_by : (b : Extents) (rules : Option DropoutRules) (es : List Edge) → HoldsEdges b es
    → IfSome (rules_for b rules) (λ (boxed : BoxedRules). HoldsEdges boxed.extents es)
held_by b None es held = tt
held_by b (Some rules) es held = held

pub outline_held : BoxLaws → (s : Fitter) (g : ℕ) (o : Outline)
    → IsInk (outline_black (filled_by s g o) (chords_with s) o)
    (ink_by (edges_at (chords_with s) 0 o) (contours_of (chords_with s) 0 o) (filled_by s g o))
outline_held laws s g o =
    let way = chords_with s in
    let filled = filled_by s g o in
    let held = held_by (extents_of o) (dropouts_of s (unfitted_fault s g) o) (edges_at way 0 o)
    (box_holds_edges way o.points o.ends (offset_at 0 o) (pos 0)) in
    joined_is (λ c j. is_black (edges_at way 0 o) (centre c) (centre j)) (is_filled filled (contours_of way 0 o))
    (outline_black filled way o) (edges_ink (edges_at way 0 o)) (filled_ink filled (contours_of way 0 o))
    (λ c j. refl) (edges_held laws way o) (dropouts_held laws way o filled held)

-- a black pixel of the box by its column and its row

abbrev AreOf : (ℤ → ℤ → Bool) → LeastBox → (ℕ → ℕ → Bool) → Type 0
AreOf black b pixel = (c r : ℕ) → pixel c r ≡ black (b.left +ℤ pos c) (((b.top +ℤ pos 1) -ℤ pos 1) -ℤ pos r)

record PixelAt (b : LeastBox) (pixel : ℕ → ℕ → Bool) (c j : ℤ) : Type 0 where
  column : ℕ
  row : ℕ
  across : column < unsigned_abs (b.right -ℤ b.left) + 1
  down : row < unsigned_abs (b.top -ℤ b.bottom) + 1
  column_is : b.left +ℤ pos column ≡ c
  row_is : b.top -ℤ pos row ≡ j
  dark : pixel column row ≡ true

pixel_at : (black : ℤ → ℤ → Bool) (b : LeastBox) (pixel : ℕ → ℕ → Bool) → AreOf black b pixel → (c j : ℤ) → IsInBox b c j
    → black c j ≡ true → PixelAt b pixel c j
pixel_at black b pixel are c j inside dark =
    let k = unsigned_abs (c -ℤ b.left) in
    let r = unsigned_abs (b.top -ℤ j) in
    let at : b.left +ℤ pos k ≡ c = omega (arith, ints, inside.left) in
    let line : ((b.top +ℤ pos 1) -ℤ pos 1) -ℤ pos r ≡ j = omega (arith, ints, inside.top) in
    record {
      column = k;
      row = r;
      across = omega (arith, ints, inside.left, inside.right);
      down = omega (arith, ints, inside.bottom, inside.top);
      column_is = at;
      row_is = omega (arith, ints, inside.top);
      dark = are k r ∙ ap (λ x. black x (((b.top +ℤ pos 1) -ℤ pos 1) -ℤ pos r)) at ∙ ap (black c) line ∙ dark;
    }

sides : (black : ℤ → ℤ → Bool) (b : LeastBox) (pixel : ℕ → ℕ → Bool) → AreOf black b pixel → IsLeastBox black b
    → HasInkAtSides (unsigned_abs (b.right -ℤ b.left) + 1) (unsigned_abs (b.top -ℤ b.bottom) + 1) pixel
sides black b pixel are least =
    let (j, left) = least.left in
    let (i, right) = least.right in
    let (c, low) = least.bottom in
    let (d, high) = least.top in
    let l = pixel_at black b pixel are b.left j (least.within b.left j left) left in
    let r = pixel_at black b pixel are b.right i (least.within b.right i right) right in
    let h = pixel_at black b pixel are d b.top (least.within d b.top high) high in
    let k = pixel_at black b pixel are c b.bottom (least.within c b.bottom low) low in
    let first_column : l.column ≡ 0 = omega (arith, ints, l.column_is) in
    let last_column : r.column + 1 ≡ unsigned_abs (b.right -ℤ b.left) + 1 = omega (arith, ints, r.column_is) in
    let first_row : h.row ≡ 0 = omega (arith, ints, h.row_is) in
    let last_row : k.row + 1 ≡ unsigned_abs (b.top -ℤ b.bottom) + 1 = omega (arith, ints, k.row_is) in
    record {
      first_column = (l.row, l.down, rw first_column at l.dark);
      last_column = (r.row, r.column, r.down, last_column, r.dark);
      first_row = (h.column, h.across, rw first_row at h.dark);
      last_row = (k.column, k.row, k.across, last_row, k.dark);
    }

-- the place of a bitmap that is made

abbrev made_at : ℕ → ℤ → Option Fault → InkPlace → MadeBitmap
made_at advance left unfitted p = record { advance = advance; advance_left = left; place = p; unfitted = unfitted }

same_made : (a b : MadeBitmap) → told.Made a ≡ told.Made b → a ≡ b
same_made a b is = cc

place_by : (advance : ℕ) (left : ℤ) (unfitted : Option Fault) (p : InkPlace) (m : MadeBitmap) (large : Bool) → is_large p ≡ large
    → made_within advance left unfitted p ≡ told.Made m → m.place ≡ p
place_by advance left unfitted p m true is made = let other : told.Large ≡ told.Made m = rw is at made in absurd cc
place_by advance left unfitted p m false is made =
    let own : told.Made (made_at advance left unfitted p) ≡ told.Made m = rw is at made in
    sym (ap (λ (m : MadeBitmap). m.place) (same_made (made_at advance left unfitted p) m own))

pub ink_of : (s : Fitter) (g : ℕ) (o : Outline) → fitted_outline s g ≡ Ok o
    → glyph_ink s g ≡ ink_by (edges_at (chords_with s) 0 o) (contours_of (chords_with s) 0 o) (filled_by s g o)
unfolding glyph_ink
ink_of s g o made = rw made refl

least_by : (s : Fitter) (g : ℕ) (o : Outline) (p : InkPlace) (x : Option LeastBox)
    → IsInk (outline_black (filled_by s g o) (chords_with s) o) x → p ≡ place_of x → 0 < p.width
    → HasInkAtSides p.width p.height (bitmap_pixel (shape_at s (g, 0) o) p)
least_by s g o p None ink at some =
    let none : p.width ≡ 0 = ap (λ (p : InkPlace). p.width) at in absurd (omega (arith, none, some))
least_by s g o p (Some b) ink at some =
    let way = chords_with s in
    let filled = filled_by s g o in
    let q = place_of (Some b) in
    rw at (sides (outline_black filled way o) b (bitmap_pixel (shape_at s (g, 0) o) q)
    (λ c r. ap (λ dark. is_black (edges_at way 0 o) (centre (column_of q c)) (centre (line_of q r)) || dark)
    (filled_here filled way o (column_of q c) (line_of q r))) ink)

pub bitmaps_are_least : BoxLaws → BitmapsAreLeast
bitmaps_are_least laws how s g m o report made some =
    let p = place_of (glyph_ink s g) in
    let within = sym (told_is how s g o p made refl) ∙ report in
    let at : m.place ≡ p = place_by (advance_by how s g) (glyph_advance s g) (unfitted_fault s g) p m (is_large p) refl within in
    let held : IsInk (outline_black (filled_by s g o) (chords_with s) o) (glyph_ink s g) = rw (ink_of s g o made) (outline_held laws s g o) in
    least_by s g o m.place (glyph_ink s g) held at some
