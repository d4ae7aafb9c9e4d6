-- Outlines at pens: what they blacken, fill and count is that at pen 0, moved.
use Rattle.std.proofs.Common.{◌≡◌, map, ℕ, ◌+◌, ◌*◌, ◌+ℤ◌, ◌*ℤ◌, ap, ◌<◌, List, [], ◌∷◌, length, get_or, ℤ, pos, ◌-ℤ◌, Ok, refl, sym, ◌∙◌, arith}
use Rattle.std.specs.Prelude.{IfSome, Option, Some, None}
use Rattle.std.proofs.lemmas.Int.{ints}
use Rattle.std.proofs.lemmas.List.{get_or-map}
use Rattle.std.specs.List.{slice_index}
use Rattle.tt_arc.proofs.Moves.{contours_there, outline_at}
use Rattle.tt_arc.specs.Chords.{chord_contours, chord_edges}
use Rattle.tt_arc.specs.declared.rule.ChordRule.{ChordRule}
use Rattle.tt_fit.specs.Fitting.{Fitter, fitted_outline}
use Rattle.tt_fit.specs.outline.Outline.{Outline}
use Rattle.tt_glyph_pixels.specs.Shown.{is_filled}
use Rattle.tt_picture.specs.Glyphs.{AreDrawn, Glyph, IsDrawn, numbers_of}
use Rattle.tt_picture.specs.Pixels.{Shape}
use Rattle.tt_picture.specs.Shapes.{chords_with, contours_of, edges_at, filled_at, filled_by, filling_crossings, glyph_shape, origin_of, shape_at}
use Rattle.tt_picture.proofs.Crossed.{filling_moved}
use Rattle.tt_scan.proofs.Moved.{black_in_columns}
use Rattle.tt_scan_edges.specs.Winding.{is_black, column_x, moved_edges}
use Rattle.tt_scan_edges.specs.declared.edge.Edge.{Edge}
use Rattle.tt_scan_edges.specs.declared.edge.Frame.{Frame}
use Rattle.tt_scan_dropouts.proofs.Counts.{edges_stay}
use Rattle.tt_scan_dropouts.proofs.MovedDots.{dropouts_move}
use Rattle.tt_scan_dropouts.specs.Counted.{edges_counted}
use Rattle.tt_scan_dropouts.specs.Dropouts.{is_dropout}
use Rattle.tt_scan_dropouts.specs.Laws.{moved, outline_moved, rules_moved}
use Rattle.tt_scan_dropouts.specs.Pictures.{column_at, line_at}
use Rattle.tt_scan_dropouts.specs.declared.boxed.BoxedRules.{BoxedRules}

-- the edges of an outline at a pen are those at pen 0, moved
at_pen : (way : ChordRule) (o : Outline) (pen : ℕ) → edges_at way pen o ≡ moved_edges (pos 8192 *ℤ pos pen) (edges_at way 0 o)
at_pen way o pen =
    let start : pos (64 * pen) -ℤ origin_of o ≡ (pos (64 * 0) -ℤ origin_of o) +ℤ pos 64 *ℤ pos pen = omega
    (arith, ints) in
    ap (λ x. chord_edges way o.points o.ends x (pos 0)) start
    ∙ outline_at way o.points o.ends (pos (64 * 0) -ℤ origin_of o) (pos 0) (pos pen)

-- an outline at a pen blackens the points that it blackens at pen 0, moved right by the pen
pub from_pen : (m : ℕ) (way : ChordRule) (o : Outline) (pen : ℕ) (c y : ℤ) → is_black (edges_at way pen o) (column_x m c) y
    ≡ is_black (edges_at way 0 o) (column_x m (c -ℤ pos pen)) y
from_pen m way o pen c y =
    let edges = at_pen way o pen in
    let back : (c -ℤ pos pen) +ℤ pos pen ≡ c = omega (arith, ints) in
    let moved = rw back at (black_in_columns (pos pen) (edges_at way 0 o) m (c -ℤ pos pen) y) in
    rw edges moved

-- where dropouts are filled, equal contours have equal dropouts
pub same_filled : (filled : Option BoxedRules) (these those : List (List Edge)) (c j : ℤ) → IfSome filled (λ rules. these ≡ those)
    → is_filled filled these c j ≡ is_filled filled those c j
same_filled None these those c j same = refl
same_filled (Some rules) these those c j same = rw same refl

-- contours moved by a pen have their dropouts moved by the pen to the right
edges_moved : (k : ℤ) (es : List Edge) → moved_edges (pos 8192 *ℤ k) es ≡ map (moved k (pos 0)) es
edges_moved k [] = refl
edges_moved k (e ∷ es) = let still : (y : ℤ) → y +ℤ pos 8192 *ℤ pos 0 ≡ y = λ y. omega (arith, ints) in rw (edges_moved k es, still e.ay, still e.by) refl

-- an outline counts at a pen as much as at pen 0
moved_there : (way : ChordRule) (o : Outline) (pen : ℕ) → edges_at way pen o ≡ map (moved (pos pen) (pos 0)) (edges_at way 0 o)
moved_there way o pen = at_pen way o pen ∙ edges_moved (pos pen) (edges_at way 0 o)

pub counts_from_pen : (way : ChordRule) (o : Outline) (pen : ℕ) → edges_counted (edges_at way pen o) ≡ edges_counted (edges_at way 0 o)
counts_from_pen way o pen = ap edges_counted (moved_there way o pen) ∙ edges_stay (pos pen) (pos 0) (edges_at way 0 o)

pub filling_from_pen : (filled : Option BoxedRules) (way : ChordRule) (o : Outline) (pen : ℕ)
    → filling_crossings (filled_at pen filled) (edges_at way pen o) ≡ filling_crossings filled (edges_at way 0 o)
filling_from_pen filled way o pen = ap (filling_crossings (filled_at pen filled)) (moved_there way o pen)
    ∙ filling_moved filled pen (edges_at way 0 o)

all_moved : (k : ℤ) (contours : List (List Edge)) → map (moved_edges (pos 8192 *ℤ k)) contours ≡ outline_moved k (pos 0) contours
all_moved k [] = refl
all_moved k (es ∷ contours) = rw (edges_moved k es, all_moved k contours) refl

pub contours_at_pen : (way : ChordRule) (o : Outline) (pen : ℕ)
    → contours_of way pen o ≡ outline_moved (pos pen) (pos 0) (contours_of way 0 o)
contours_at_pen way o pen =
    let start : pos (64 * pen) -ℤ origin_of o ≡ (pos (64 * 0) -ℤ origin_of o) +ℤ pos 64 *ℤ pos pen = omega
    (arith, ints) in
    ap (λ x. chord_contours way o.points o.ends x (pos 0)) start
    ∙ contours_there way o.points o.ends (pos (64 * 0) -ℤ origin_of o) (pos 0) (pos pen)
    ∙ all_moved (pos pen) (contours_of way 0 o)

pub filled_from_pen : (filled : Option BoxedRules) (f : Frame) (way : ChordRule) (o : Outline) (pen c r : ℕ)
    → is_filled filled (contours_of way 0 o) (column_at f pen c) (line_at f r)
    ≡ is_filled (filled_at pen filled) (contours_of way pen o) (column_at f 0 c) (line_at f r)
filled_from_pen None f way o pen c r = refl
filled_from_pen (Some rules) f way o pen c r =
    let column : column_at f 0 c ≡ column_at f pen c +ℤ pos pen = omega (arith, ints) in
    let line : line_at f r ≡ line_at f r +ℤ pos 0 = omega (arith, ints) in
    sym (dropouts_move rules (contours_of way 0 o) (pos pen) (pos 0) (column_at f pen c) (line_at f r))
    ∙ rw (contours_at_pen way o pen, column) (ap (is_dropout (rules_moved (pos pen) (pos 0) rules)
    (outline_moved (pos pen) (pos 0) (contours_of way 0 o)) (column_at f pen c +ℤ pos pen)) (sym line))

-- a glyph among some, and its number
pub number_is : (gs : List Glyph) (i : ℕ) (g : Glyph) (n : ℕ) → i < length gs → g ≡ get_or gs i g
    → slice_index (numbers_of gs) i ≡ n → g.number ≡ n
number_is gs i g n below is found = ap (λ (t : Glyph). t.number) is
    ∙ sym (get_or-map (λ (t : Glyph). t.number) gs i g 0 below) ∙ found

pub drawn_is : (maker : ℕ → Fitter) (gs : List Glyph) (i : ℕ) (g : Glyph) → AreDrawn maker gs → i < length gs
    → g ≡ get_or gs i g → IsDrawn (maker g.number) g
drawn_is maker gs i g drawn below is = rw (← is) at (drawn i g below)

-- at a pen it is a shape, and counts the crossings of the shape
pub drawn_at : (maker : ℕ → Fitter) (g : Glyph) (placed : ℕ × ℕ) → IsDrawn (maker g.number) g → g.number ≡ placed.0
    → (s : Shape) × (glyph_shape maker placed ≡ Ok s) × (g.crossings ≡ edges_counted s.edges + filling_crossings s.filled s.edges)
drawn_at maker g placed drawn number =
    let s = maker placed.0 in
    let o = drawn.shape in
    let way = chords_with s in
    let made : fitted_outline s placed.0 ≡ Ok o = rw number at drawn.outline in
    let counts : g.crossings ≡ edges_counted (edges_at way 0 o) + filling_crossings (filled_by s placed.0 o) (edges_at way 0 o) =
    rw number at drawn.crossings in (
      shape_at s placed o,
      rw made refl,
      rw (counts_from_pen way o placed.1, filling_from_pen (filled_by s placed.0 o) way o placed.1) counts,
    )
