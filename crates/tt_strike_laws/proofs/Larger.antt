-- A picture with added columns and rows has the pixels of the smaller one.
use Rattle.std.proofs.Common.{◌≡◌, ◌∙◌, refl, ap, sym, ℕ, ◌+◌, ◌||◌, List, [], ◌∷◌, map, Option, ℤ, pos, ◌+ℤ◌, ◌-ℤ◌, Ok, arith}
use Rattle.std.proofs.lemmas.Int.{ints}
use Rattle.tt_arc.specs.declared.rule.ChordRule.{ChordRule}
use Rattle.tt_core.specs.Outcomes.{each}
use Rattle.tt_fit.specs.Fitting.{Fitter}
use Rattle.tt_fit.specs.outline.Outline.{Outline}
use Rattle.tt_scan_edges.specs.declared.edge.Frame.{Frame}
use Rattle.tt_scan_edges.specs.Winding.{column_x, is_black, row_y}
use Rattle.tt_scan_dropouts.specs.Pictures.{column_at, line_at}
use Rattle.tt_scan_dropouts.specs.declared.boxed.BoxedRules.{BoxedRules}
use Rattle.tt_strike.specs.Grown.{with_sides}
use Rattle.tt_strike_laws.specs.Laws.{SidesMove}
use Rattle.tt_picture.specs.Shapes.{chords_with, contours_of, edges_at, filled_at, filled_by, glyph_shape}
use Rattle.tt_strike.specs.Picture.{frame_of}
use Rattle.tt_glyph_pixels.specs.Shown.{is_filled}
use Rattle.tt_picture.specs.Pixels.{Shape, some_black, some_filled}
use Rattle.tt_picture.proofs.Standings.{filled_from_pen, from_pen}
use Rattle.tt_strike.proofs.FirstShape.{first_of}

-- one glyph, in a frame with m more rows above
one_black : (m : ℕ) (way : ChordRule) (o : Outline) (pen left c : ℕ) (y : ℤ)
    → is_black (edges_at way (pen + left) o) (column_x m (pos (c + left))) y ≡ is_black (edges_at way pen o) (column_x m (pos c)) y
one_black m way o pen left c y =
    let back : pos (c + left) -ℤ pos (pen + left) ≡ pos c -ℤ pos pen = omega (arith, ints) in
    from_pen m way o (pen + left) (pos (c + left)) y
    ∙ ap (λ k. is_black (edges_at way 0 o) (column_x m k) y) back
    ∙ sym (from_pen m way o pen (pos c) y)

one_filled : (filled : Option BoxedRules) (f g : Frame) (way : ChordRule) (o : Outline) (pen left top c r : ℕ) → g.margin ≡ f.margin
    → g.rise ≡ f.rise +ℤ pos top
    → is_filled (filled_at (pen + left) filled) (contours_of way (pen + left) o) (column_at g 0 (c + left)) (line_at g (r + top))
    ≡ is_filled (filled_at pen filled) (contours_of way pen o) (column_at f 0 c) (line_at f r)
one_filled filled f g way o pen left top c r margin rise =
    let column : column_at g (pen + left) (c + left) ≡ column_at f pen c = omega (arith, ints, margin) in
    let line : line_at g (r + top) ≡ line_at f r = omega (arith, ints, margin, rise) in
    sym (filled_from_pen filled g way o (pen + left) (c + left) (r + top))
    ∙ rw (column, line) (filled_from_pen filled f way o pen c r)

all_black : (maker : ℕ → Fitter) (m left c : ℕ) (y : ℤ) (gs : List (ℕ × ℕ)) (glyphs larger : List Shape)
    → each (glyph_shape maker) gs ≡ Ok glyphs
    → each (glyph_shape maker) (map (λ g. (g.0, g.1 + left)) gs) ≡ Ok larger
    → some_black larger (column_x m (pos (c + left))) y ≡ some_black glyphs (column_x m (pos c)) y
all_black maker m left c y [] glyphs larger made moved =
    let none : glyphs ≡ [] = cc in
    let also : larger ≡ [] = cc in
    rw (none, also) refl
all_black maker m left c y (g ∷ gs) glyphs larger made moved =
    let one = first_of maker g gs glyphs made in
    let other = first_of maker (g.0, g.1 + left) (map (λ g. (g.0, g.1 + left)) gs) larger moved in
    let there = one.fitted in
    let again = other.fitted in
    let same : other.outline ≡ one.outline = cc in
    let way = chords_with (maker g.0) in
    rw (one.all, other.all, same, one_black m way one.outline g.1 left c y)
    (ap (λ b. is_black (edges_at way g.1 one.outline) (column_x m (pos c)) y || b)
    (all_black maker m left c y gs one.rest other.rest one.others other.others))

all_filled : (maker : ℕ → Fitter) (f h : Frame) (left top c r : ℕ) (gs : List (ℕ × ℕ)) (glyphs larger : List Shape)
    → h.margin ≡ f.margin → h.rise ≡ f.rise +ℤ pos top → each (glyph_shape maker) gs ≡ Ok glyphs
    → each (glyph_shape maker) (map (λ g. (g.0, g.1 + left)) gs) ≡ Ok larger
    → some_filled h larger (c + left) (r + top) ≡ some_filled f glyphs c r
all_filled maker f h left top c r [] glyphs larger margin rise made moved =
    let none : glyphs ≡ [] = cc in
    let also : larger ≡ [] = cc in
    rw (none, also) refl
all_filled maker f h left top c r (g ∷ gs) glyphs larger margin rise made moved =
    let one = first_of maker g gs glyphs made in
    let other = first_of maker (g.0, g.1 + left) (map (λ g. (g.0, g.1 + left)) gs) larger moved in
    let there = one.fitted in
    let again = other.fitted in
    let same : other.outline ≡ one.outline = cc in
    let way = chords_with (maker g.0) in
    let rules = filled_by (maker g.0) g.0 one.outline in
    rw (one.all, other.all, same, one_filled rules f h way one.outline g.1 left top c r margin rise)
    (ap (λ b. is_filled (filled_at g.1 rules) (contours_of way g.1 one.outline) (column_at f 0 c) (line_at f r) || b)
    (all_filled maker f h left top c r gs one.rest other.rest margin rise one.others other.others))

pub sides_move : SidesMove
sides_move maker line s margin glyphs larger c r made moved =
    let f = frame_of line margin in
    let h = frame_of (with_sides line s) margin in
    let row : row_y h (pos (r + s.top)) ≡ row_y f (pos r) = omega (arith, ints) in
    rw (
      row,
      all_black maker margin s.left c (row_y f (pos r)) line.glyphs glyphs larger made moved,
      all_filled maker f h s.left s.top c r line.glyphs glyphs larger refl refl made moved,
    ) refl
