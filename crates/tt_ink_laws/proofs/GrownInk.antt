-- Where all ink of a line lies in its picture, the bitmaps of its glyphs lie in the picture.
use Rattle.std.proofs.Common.{◌≡◌, ◌∙◌, ap, ap₂, refl, ℕ, Bool, true, false, ◌&&◌, ◌||◌, ℤ, pos, ◌+ℤ◌, ◌-ℤ◌, ◌≤ℤ◌, ◌<ℤ◌, int_le, int_lt, List, [], ◌∷◌, Option, None, Some, Ok, All, arith}
use Rattle.std.proofs.lemmas.Bool.{and_parts, or_left, or_right}
use Rattle.std.proofs.lemmas.Int.{ints}
use Rattle.std.proofs.lemmas.List.Elements.{All-cons, All-nil, All-weaker}
use Rattle.tt_arc.specs.declared.rule.ChordRule.{ChordRule}
use Rattle.tt_core.specs.Outcomes.{each}
use Rattle.tt_fit.specs.Fitting.{Fitter, fitted_outline}
use Rattle.tt_fit.specs.outline.Outline.{Outline}
use Rattle.tt_line.specs.Layout.{Placement}
use Rattle.tt_picture.specs.Ink.{column_of, row_of}
use Rattle.tt_glyph_pixels.specs.Shown.{is_filled}
use Rattle.tt_picture.specs.Pixels.{Shape, some_black}
use Rattle.tt_picture.specs.Shapes.{chords_with, contours_of, edges_at, filled_at, filled_by, glyph_shape, shape_at}
use Rattle.tt_picture.proofs.Standings.{contours_at_pen, from_pen}
use Rattle.tt_scan_dropouts.specs.Dropouts.{is_dropout}
use Rattle.tt_scan_dropouts.specs.Laws.{outline_moved, rules_moved}
use Rattle.tt_scan_dropouts.specs.declared.boxed.BoxedRules.{BoxedRules}
use Rattle.tt_scan_dropouts.proofs.MovedDots.{dropouts_move}
use Rattle.tt_scan_edges.specs.declared.edge.Edge.{Edge}
use Rattle.tt_scan_edges.specs.declared.edge.Frame.{Frame}
use Rattle.tt_scan_edges.specs.Winding.{column_x, is_black, row_y}
use Rattle.tt_scan_gaps.specs.Crossings.{centre}
use Rattle.tt_bitmap.specs.Inks.{IsInk}
use Rattle.tt_bitmap.specs.declared.ink.LeastBox.{LeastBox}
use Rattle.tt_strike_laws.specs.InkLaws.{IsInPicture, is_ink, line_of, some_dropout}
use Rattle.tt_strike.specs.Picture.{frame_of}
use Rattle.tt_glyphs.specs.Bitmaps.{place_of}
use Rattle.tt_glyphs.specs.declared.place.InkPlace.{InkPlace}
use Rattle.tt_glyphs.specs.GlyphLaws.{IsWithin, lies_in}
use Rattle.tt_glyphs.proofs.LeastBitmaps.{outline_black}
use Rattle.tt_glyphs.proofs.LineBitmaps.{first_of}

-- a glyph at its pen has the black pixels of its outline, inside of the picture and outside

edges_there : (f : Frame) (way : ChordRule) (o : Outline) (pen : ℕ) (k j : ℤ)
    → is_black (edges_at way pen o) (column_x f.margin (column_of f pen k)) (row_y f (row_of f j))
    ≡ is_black (edges_at way 0 o) (centre k) (centre j)
edges_there f way o pen k j =
    let y = row_y f (row_of f j) in
    let column : column_x f.margin (column_of f pen k -ℤ pos pen) ≡ centre k = omega (arith, ints) in
    let row : row_y f (row_of f j) ≡ centre j = omega (arith, ints) in
    from_pen f.margin way o pen (column_of f pen k) y
    ∙ ap (λ x. is_black (edges_at way 0 o) x y) column
    ∙ ap (is_black (edges_at way 0 o) (centre k)) row

filled_there : (f : Frame) (filled : Option BoxedRules) (way : ChordRule) (o : Outline) (pen : ℕ) (k j : ℤ)
    → is_filled (filled_at pen filled) (contours_of way pen o) (column_of f pen k -ℤ pos f.margin) (line_of f (row_of f j))
    ≡ is_filled filled (contours_of way 0 o) k j
filled_there f None way o pen k j = refl
filled_there f (Some rules) way o pen k j =
    let there = rules_moved (pos pen) (pos 0) rules in
    let moved = outline_moved (pos pen) (pos 0) (contours_of way 0 o) in
    let x = column_of f pen k -ℤ pos f.margin in
    let y = line_of f (row_of f j) in
    let column : column_of f pen k -ℤ pos f.margin ≡ k +ℤ pos pen = omega (arith, ints) in
    let line : line_of f (row_of f j) ≡ j +ℤ pos 0 = omega (arith, ints) in
    ap (λ (es : List (List Edge)). is_dropout there es x y) (contours_at_pen way o pen)
    ∙ ap (λ c. is_dropout there moved c y) column
    ∙ ap (is_dropout there moved (k +ℤ pos pen)) line
    ∙ dropouts_move rules (contours_of way 0 o) (pos pen) (pos 0) k j

-- ink of a first shape, or of the others

exchanged : (a b c d : Bool) → ((a || b) || (c || d)) ≡ ((a || c) || (b || d))
exchanged true b c d = refl
exchanged false true true d = refl
exchanged false true false d = refl
exchanged false false c d = refl

abbrev shape_ink : Frame → Shape → ℤ → ℤ → Bool
shape_ink f s c r = is_black s.edges (column_x f.margin c) (row_y f r) || is_filled s.filled s.contours (c -ℤ pos f.margin) (line_of f r)

ink_begins : (f : Frame) (s : Shape) (ss : List Shape) (c r : ℤ) → is_ink f (s ∷ ss) c r ≡ (shape_ink f s c r || is_ink f ss c r)
ink_begins f s ss c r =
    exchanged (is_black s.edges (column_x f.margin c) (row_y f r)) (some_black ss (column_x f.margin c) (row_y f r))
    (is_filled s.filled s.contours (c -ℤ pos f.margin) (line_of f r)) (some_dropout ss (c -ℤ pos f.margin) (line_of f r))

of_first : (f : Frame) (s : Fitter) (g : ℕ × ℕ) (o : Outline) (ss : List Shape) (k j : ℤ)
    → outline_black (filled_by s g.0 o) (chords_with s) o k j ≡ true
    → is_ink f (shape_at s g o ∷ ss) (column_of f g.1 k) (row_of f j) ≡ true
of_first f s g o ss k j dark =
    let c = column_of f g.1 k in
    let r = row_of f j in
    let way = chords_with s in
    let here : shape_ink f (shape_at s g o) c r ≡ outline_black (filled_by s g.0 o) way o k j =
    ap₂ (λ a b. a || b) (edges_there f way o g.1 k j) (filled_there f (filled_by s g.0 o) way o g.1 k j) in
    ink_begins f (shape_at s g o) ss c r ∙ or_left (shape_ink f (shape_at s g o) c r) (is_ink f ss c r) (here ∙ dark)

of_others : (f : Frame) (s : Shape) (ss : List Shape) (c r : ℤ) → is_ink f ss c r ≡ true → is_ink f (s ∷ ss) c r ≡ true
of_others f s ss c r dark = ink_begins f s ss c r ∙ or_right (shape_ink f s c r) (is_ink f ss c r) dark

-- the black pixels of each glyph of a line are ink of the line

pub record IsInked (maker : ℕ → Fitter) (f : Frame) (shapes : List Shape) (g : ℕ × ℕ) : Type 0 where
  pub outline : Outline
  pub fitted : fitted_outline (maker g.0) g.0 ≡ Ok outline
  pub inked : (k j : ℤ) → outline_black (filled_by (maker g.0) g.0 outline) (chords_with (maker g.0)) outline k j ≡ true
      → is_ink f shapes (column_of f g.1 k) (row_of f j) ≡ true

pub all_inked : (maker : ℕ → Fitter) (f : Frame) (gs : List (ℕ × ℕ)) (shapes : List Shape) → each (glyph_shape maker) gs ≡ Ok shapes
    → All (IsInked maker f shapes) gs
all_inked maker f [] shapes made = All-nil (IsInked maker f shapes)
all_inked maker f (g ∷ gs) shapes made =
    let one = first_of maker g gs shapes made in
    let shape = shape_at (maker g.0) g one.outline in
    let first : IsInked maker f shapes g = record {
      outline = one.outline;
      fitted = one.fitted;
      inked = λ k j dark.
          ap (λ (ss : List Shape). is_ink f ss (column_of f g.1 k) (row_of f j)) one.all
          ∙ of_first f (maker g.0) g one.outline one.rest k j dark;
    } in
    let other : (h : ℕ × ℕ) → IsInked maker f one.rest h → IsInked maker f shapes h = λ h is. record {
      outline = is.outline;
      fitted = is.fitted;
      inked = λ k j dark.
          ap (λ (ss : List Shape). is_ink f ss (column_of f h.1 k) (row_of f j)) one.all
          ∙ of_others f shape one.rest (column_of f h.1 k) (row_of f j) (is.inked k j dark);
    } in
    All-cons (IsInked maker f shapes) g gs first
    (All-weaker (IsInked maker f one.rest) (IsInked maker f shapes) other gs (all_inked maker f gs one.rest one.others))

-- the place of ink that is not cut lies in the picture

record IsInPlace (p : InkPlace) (c j : ℤ) : Type 0 where
  left : p.left ≤ℤ c
  right : c <ℤ (p.left +ℤ pos p.width)
  bottom : (p.top -ℤ pos p.height) ≤ℤ j
  top : j <ℤ p.top

by_le : (a b : ℤ) → int_le a b ≡ true → a ≤ℤ b
by_le a b is = grind (arith, ints, is)

by_lt : (a b : ℤ) → int_lt a b ≡ true → a <ℤ b
by_lt a b is = grind (arith, ints, is)

in_place : (p : InkPlace) (c j : ℤ) → lies_in p c j ≡ true → IsInPlace p c j
in_place p c j inside =
    let right = p.left +ℤ pos p.width in
    let bottom = p.top -ℤ pos p.height in
    let both = and_parts (int_le p.left c && int_lt c right) (int_le bottom j && int_lt j p.top) inside in
    let columns = and_parts (int_le p.left c) (int_lt c right) both.0 in
    let lines = and_parts (int_le bottom j) (int_lt j p.top) both.1 in
    record {
      left = by_le p.left c columns.0;
      right = by_lt c right columns.1;
      bottom = by_le bottom j lines.0;
      top = by_lt j p.top lines.1;
    }

pub place_within : (line : Placement) (margin pen : ℕ) (black : ℤ → ℤ → Bool) (x : Option LeastBox) → IsInk black x
    → ((k j : ℤ) → black k j ≡ true → IsInPicture line (column_of (frame_of line margin) pen k) (row_of (frame_of line margin) j))
    → IsWithin (frame_of line margin) pen (place_of x)
place_within line margin pen black None ink held = λ c j inside.
    let at = in_place (place_of None) c j inside in
    absurd (omega (arith, ints, at.left, at.right))
place_within line margin pen black (Some b) ink held = λ c j inside.
    let at = in_place (place_of (Some b)) c j inside in
    let left = held b.left ink.left.0 ink.left.1 in
    let right = held b.right ink.right.0 ink.right.1 in
    let bottom = held ink.bottom.0 b.bottom ink.bottom.1 in
    let top = held ink.top.0 b.top ink.top.1 in
    let across = (ink.within b.left ink.left.0 ink.left.1).right in
    let upwards = (ink.within ink.bottom.0 b.bottom ink.bottom.1).top in (
      omega (arith, ints, left.left, at.left),
      omega (arith, ints, right.right, at.right, across),
      omega (arith, ints, top.top, at.top),
      omega (arith, ints, bottom.bottom, at.bottom, upwards),
    )
