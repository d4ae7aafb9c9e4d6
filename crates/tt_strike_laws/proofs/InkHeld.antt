-- The box of a line's measure holds all ink of the line, and no smaller box does.
use Rattle.std.proofs.Common.{◌≡◌, ◌∙◌, refl, ap, subst, sym, ℕ, ◌+◌, Bool, true, false, ◌||◌, ℤ, pos, ◌+ℤ◌, ◌-ℤ◌, List, [], ◌∷◌, map, Option, Some, None, Result, Ok, Err, arith}
use Rattle.std.specs.Prelude.{IfSome}
use Rattle.std.proofs.lemmas.Int.{ints}
use Rattle.tt_arc.proofs.PointsBox.{box_holds_edges}
use Rattle.tt_arc.specs.Laws.{ContoursAreClosed, ContoursJoined}
use Rattle.tt_arc.specs.declared.rule.ChordRule.{ChordRule}
use Rattle.tt_core.specs.Chains.{came-through}
use Rattle.tt_core.specs.Faults.{Fault}
use Rattle.tt_core.specs.Outcomes.{each}
use Rattle.tt_fit.specs.Fitting.{Fitter, fitted_outline}
use Rattle.tt_fit.specs.declared.dropouts.DropoutRules.{DropoutRules}
use Rattle.tt_fit.specs.outline.Outline.{Outline}
use Rattle.tt_line.specs.Layout.{Placement}
use Rattle.tt_scan_edges.specs.declared.edge.Edge.{Edge}
use Rattle.tt_scan_edges.specs.declared.edge.Frame.{Frame}
use Rattle.tt_scan_edges.specs.Winding.{column_x, is_black, row_y}
use Rattle.tt_scan_gaps.specs.Boxes.{HoldsEdges}
use Rattle.tt_scan_gaps.specs.Crossings.{centre}
use Rattle.tt_scan_gaps.specs.declared.extent.Extents.{Extents}
use Rattle.tt_scan_dropouts.specs.Dropouts.{is_dropout}
use Rattle.tt_scan_dropouts.specs.Laws.{outline_moved, rules_moved}
use Rattle.tt_scan_dropouts.specs.Pictures.{column_at, line_at}
use Rattle.tt_scan_dropouts.specs.declared.boxed.BoxedRules.{BoxedRules}
use Rattle.tt_scan_dropouts.proofs.MovedDots.{dropouts_move}
use Rattle.tt_bitmap.specs.Inks as ink
use Rattle.tt_scan_ink.specs.Ink.{edges_ink}
use Rattle.tt_scan_ink.specs.Laws.{DropoutsInkHoldsAll, EdgesInkHoldsAll}
use Rattle.tt_bitmap.specs.Inks.{IsInk, IsLeastBox}
use Rattle.tt_bitmap.specs.declared.ink.LeastBox.{LeastBox}
use Rattle.tt_scan_ink.proofs.Together.{ink_alike, joined_is}
use Rattle.tt_strike.specs.Work.{line_fitter}
use Rattle.tt_picture.specs.Ink.{all_joined, box_at, column_of, filled_ink, glyph_ink, ink_at, ink_by, joined, outline_ink, row_of}
use Rattle.tt_strike_laws.specs.InkLaws.{InkIsDrawn, IsBoxOf, IsLeast, MeasureHoldsInk, is_ink, line_of, some_dropout}
use Rattle.tt_strike.specs.Job.{Job}
use Rattle.tt_metrics.specs.Metrics.{Metrics}
use Rattle.tt_strike.specs.Measures.{Measure, characters_at, line_ink, line_step, measure_by, measured_line}
use Rattle.tt_picture.specs.Shapes.{chords_with, contours_of, edges_at, extents_of, filled_at, filled_by, glyph_shape, offset_at, rules_for}
use Rattle.tt_strike.specs.Picture.{frame_of, line_shapes, setting_in}
use Rattle.tt_glyph_pixels.specs.Shown.{is_filled}
use Rattle.tt_picture.specs.Pixels.{Shape, some_black, some_filled}
use Rattle.tt_strike.specs.Refusals.{as_font}
use Rattle.tt_face.specs.Faces.{Face}
use Rattle.tt_picture.specs.declared.ink_box.InkBox.{InkBox}
use Rattle.tt_strike.specs.declared.measuring.CharacterMeasure.{CharacterMeasure}
use Rattle.tt_picture.proofs.Blackened.{or_false, or_or}
use Rattle.tt_strike.proofs.FirstShape.{first_of}
use Rattle.tt_picture.proofs.Standings.{contours_at_pen, from_pen}
use Rattle.tt_strike.proofs.Placed.{of-font}

-- the laws of the crates below about boxes and contours
pub record BoxLaws : Type 0 where
  pub edges : EdgesInkHoldsAll
  pub dropouts : DropoutsInkHoldsAll
  pub closed : ContoursAreClosed
  pub joined : ContoursJoined

-- the ink within a picture

drawn_dropouts : (f : Frame) (glyphs : List Shape) (c r : ℕ)
    → some_dropout glyphs (pos c -ℤ pos f.margin) (line_of f (pos r)) ≡ some_filled f glyphs c r
drawn_dropouts f [] c r = refl
drawn_dropouts f (s ∷ ss) c r =
    let column : pos c -ℤ pos f.margin ≡ column_at f 0 c = omega (arith, ints) in
    ap (λ z. is_filled s.filled s.contours z (line_at f r)
    || some_dropout ss (pos c -ℤ pos f.margin) (line_of f (pos r))) column
    ∙ ap (λ b. is_filled s.filled s.contours (column_at f 0 c) (line_at f r) || b) (drawn_dropouts f ss c r)

pub ink_is_drawn : InkIsDrawn
ink_is_drawn f glyphs c r =
    ap (λ b. some_black glyphs (column_x f.margin (pos c)) (row_y f (pos r)) || b) (drawn_dropouts f glyphs c r)

-- one glyph at pen 0

abbrev outline_black : Option BoxedRules → ChordRule → Outline → ℤ → ℤ → Bool
outline_black filled way o c j =
    is_black (edges_at way 0 o) (centre c) (centre j) || is_filled filled (contours_of way 0 o) c j

edges_held : BoxLaws → (way : ChordRule) (o : Outline)
    → IsInk (λ c j. is_black (edges_at way 0 o) (centre c) (centre j)) (edges_ink (edges_at way 0 o))
edges_held laws way o =
    let from = offset_at 0 o in
    let P : List Edge → Type 0 = λ es. IsInk (λ c j. is_black es (centre c) (centre j)) (edges_ink es) in
    subst P (laws.joined way o.points o.ends from (pos 0))
    (laws.edges (contours_of way 0 o) (laws.closed way o.points o.ends from (pos 0)))

dropouts_held : BoxLaws → (way : ChordRule) (o : Outline) (filled : Option BoxedRules)
    → IfSome filled (λ rules. HoldsEdges rules.extents (edges_at way 0 o))
    → IsInk (is_filled filled (contours_of way 0 o)) (filled_ink filled (contours_of way 0 o))
dropouts_held laws way o None held = λ c j. refl
dropouts_held laws way o (Some rules) held =
    laws.dropouts rules (contours_of way 0 o)
    (subst (HoldsEdges rules.extents) (sym (laws.joined way o.points o.ends (offset_at 0 o) (pos 0))) held)

outline_held : BoxLaws → (way : ChordRule) (o : Outline) (filled : Option BoxedRules)
    → IfSome filled (λ rules. HoldsEdges rules.extents (edges_at way 0 o))
    → IsInk (outline_black filled way o) (ink_by (edges_at way 0 o) (contours_of way 0 o) filled)
outline_held laws way o filled held =
    joined_is (λ c j. is_black (edges_at way 0 o) (centre c) (centre j)) (is_filled filled (contours_of way 0 o))
    (outline_black filled way o) (edges_ink (edges_at way 0 o)) (filled_ink filled (contours_of way 0 o))
    (λ c j. refl) (edges_held laws way o) (dropouts_held laws way o filled held)

-- the box of the points holds the edges
held_by : (b : Extents) (rules : Option DropoutRules) (es : List Edge) → HoldsEdges b es
    → IfSome (rules_for b rules) (λ (boxed : BoxedRules). HoldsEdges boxed.extents es)
held_by b None es held = tt
held_by b (Some rules) es held = held

abbrev fitted_black : Fitter → ℕ → Result Outline Fault → ℤ → ℤ → Bool
fitted_black s g (Ok o) c j = outline_black (filled_by s g o) (chords_with s) o c j
fitted_black s g (Err fault) c j = false

fitted_held : BoxLaws → (s : Fitter) (g : ℕ) (r : Result Outline Fault)
    → IsInk (fitted_black s g r) (outline_ink s g r)
fitted_held laws s g (Ok o) =
    outline_held laws (chords_with s) o (filled_by s g o) (held_by (extents_of o) _ (edges_at (chords_with s) 0 o)
    (box_holds_edges (chords_with s) o.points o.ends (offset_at 0 o) (pos 0)))
fitted_held laws s g (Err fault) = λ c j. refl

-- the black pixels of a glyph, column c and line j from its pen
abbrev pub glyph_black : Fitter → ℕ → ℤ → ℤ → Bool
glyph_black s g c j = fitted_black s g (fitted_outline s g) c j

glyph_held : BoxLaws → (s : Fitter) (g : ℕ) → IsInk (glyph_black s g) (glyph_ink s g)
unfolding glyph_ink
glyph_held laws s g = fitted_held laws s g (fitted_outline s g)

-- a box of a picture as a box of a glyph, whose lines are the rows of the picture

abbrev view : InkBox → LeastBox
view b = record { left = b.left; bottom = b.top; right = b.right; top = b.bottom }

abbrev pub seen : Option InkBox → Option LeastBox
seen None = None
seen (Some b) = Some (view b)

pub seen_joined : (a b : Option InkBox) → seen (joined a b) ≡ ink.joined (seen a) (seen b)
seen_joined None b = refl
seen_joined (Some a) None = refl
seen_joined (Some a) (Some b) = refl

pub least_box : (black : ℤ → ℤ → Bool) (b : InkBox) → IsLeastBox black (view b) → IsLeast black b
least_box black b least = record {
  within = λ c r is. let at = least.within c r is in
      record { left = at.left; top = at.bottom; right = at.right; bottom = at.top };
  left = least.left;
  top = least.bottom;
  right = least.right;
  bottom = least.top;
}

box_of : (black : ℤ → ℤ → Bool) (x : Option InkBox) → IsInk black (seen x) → IsBoxOf black x
box_of black None none = none
box_of black (Some b) least = least_box black b least

-- a glyph at a pen

abbrev from_place : Frame → ℕ → (ℤ → ℤ → Bool) → ℤ → ℤ → Bool
from_place f pen black c r = black (c -ℤ pos (pen + f.margin)) (line_of f r)

there : (f : Frame) (pen : ℕ) (black : ℤ → ℤ → Bool) (c j : ℤ) → black c j ≡ true
    → black (column_of f pen c -ℤ pos (pen + f.margin)) (line_of f (row_of f j)) ≡ true
there f pen black c j is =
    let column : column_of f pen c -ℤ pos (pen + f.margin) ≡ c = omega (arith, ints) in
    let line : line_of f (row_of f j) ≡ j = omega (arith, ints) in
    ap (λ k. black k (line_of f (row_of f j))) column ∙ ap (black c) line ∙ is

least_there : (f : Frame) (pen : ℕ) (black : ℤ → ℤ → Bool) (b : LeastBox) → IsLeastBox black b
    → IsLeastBox (from_place f pen black) (view (box_at f pen b))
least_there f pen black b least = record {
  within = λ c r is.
      let at = least.within (c -ℤ pos (pen + f.margin)) (line_of f r) is in
      record {
        left = omega (arith, ints, at.left);
        right = omega (arith, ints, at.right);
        bottom = omega (arith, ints, at.top);
        top = omega (arith, ints, at.bottom);
      };
  left = (row_of f least.left.0, there f pen black b.left least.left.0 least.left.1);
  right = (row_of f least.right.0, there f pen black b.right least.right.0 least.right.1);
  bottom = (column_of f pen least.top.0, there f pen black least.top.0 b.top least.top.1);
  top = (column_of f pen least.bottom.0, there f pen black least.bottom.0 b.bottom least.bottom.1);
}

place_held : (f : Frame) (pen : ℕ) (black : ℤ → ℤ → Bool) (x : Option LeastBox) → IsInk black x
    → IsInk (from_place f pen black) (seen (ink_at f pen x))
place_held f pen black None none = λ c r. none (c -ℤ pos (pen + f.margin)) (line_of f r)
place_held f pen black (Some b) least = least_there f pen black b least

-- a line of glyphs

abbrev pub line_black : (ℕ → Fitter) → Frame → List (ℕ × ℕ) → ℤ → ℤ → Bool
line_black maker f [] c r = false
line_black maker f (g ∷ gs) c r =
    from_place f g.1 (glyph_black (maker g.0) g.0) c r || line_black maker f gs c r

abbrev pub boxes : (ℕ → Fitter) → Frame → List (ℕ × ℕ) → List (Option InkBox)
boxes maker f gs = map (λ (g : ℕ × ℕ). ink_at f g.1 (glyph_ink (maker g.0) g.0)) gs

-- the box so far and those of the other glyphs
pub held_after : BoxLaws → (maker : ℕ → Fitter) (f : Frame) (gs : List (ℕ × ℕ)) (before : ℤ → ℤ → Bool)
    (so_far : Option InkBox) → IsInk before (seen so_far)
    → IsInk (λ c r. before c r || line_black maker f gs c r) (seen (all_joined so_far (boxes maker f gs)))
held_after laws maker f [] before so_far held =
    ink_alike before (λ c r. before c r || false) (seen so_far) (λ c r. or_false (before c r)) held
held_after laws maker f (g ∷ gs) before so_far held =
    let one : ℤ → ℤ → Bool = from_place f g.1 (glyph_black (maker g.0) g.0) in
    let at : Option InkBox = ink_at f g.1 (glyph_ink (maker g.0) g.0) in
    let here : IsInk one (seen at) = place_held f g.1 (glyph_black (maker g.0) g.0) (glyph_ink (maker g.0) g.0)
    (glyph_held laws (maker g.0) g.0) in
    let more : ℤ → ℤ → Bool = λ c r. before c r || one c r in
    let both : IsInk more (seen (joined so_far at)) = subst (IsInk more) (sym (seen_joined so_far at))
    (joined_is before one more (seen so_far) (seen at) (λ c r. refl) held here) in
    ink_alike (λ c r. more c r || line_black maker f gs c r)
    (λ c r. before c r || (one c r || line_black maker f gs c r))
    (seen (all_joined (joined so_far at) (boxes maker f gs)))
    (λ c r. or_or (before c r) (one c r) (line_black maker f gs c r))
    (held_after laws maker f gs more (joined so_far at) both)

-- the shapes of a line blacken what its glyphs do

exchanged : (a b c d : Bool) → ((a || b) || (c || d)) ≡ ((a || c) || (b || d))
exchanged true b c d = refl
exchanged false true true d = refl
exchanged false true false d = refl
exchanged false false c d = refl

filled_there : (f : Frame) (filled : Option BoxedRules) (way : ChordRule) (o : Outline) (pen : ℕ) (c r : ℤ)
    → is_filled (filled_at pen filled) (contours_of way pen o) (c -ℤ pos f.margin) (line_of f r)
    ≡ is_filled filled (contours_of way 0 o) (c -ℤ pos (pen + f.margin)) (line_of f r)
filled_there f None way o pen c r = refl
filled_there f (Some rules) way o pen c r =
    let there = rules_moved (pos pen) (pos 0) rules in
    let moved = outline_moved (pos pen) (pos 0) (contours_of way 0 o) in
    let column : c -ℤ pos f.margin ≡ (c -ℤ pos (pen + f.margin)) +ℤ pos pen = omega (arith, ints) in
    let line : line_of f r ≡ line_of f r +ℤ pos 0 = omega (arith, ints) in
    ap (λ (es : List (List Edge)). is_dropout there es (c -ℤ pos f.margin) (line_of f r)) (contours_at_pen way o pen)
    ∙ ap (λ k. is_dropout there moved k (line_of f r)) column
    ∙ ap (is_dropout there moved ((c -ℤ pos (pen + f.margin)) +ℤ pos pen)) line
    ∙ dropouts_move rules (contours_of way 0 o) (pos pen) (pos 0) (c -ℤ pos (pen + f.margin)) (line_of f r)

edges_there : (f : Frame) (way : ChordRule) (o : Outline) (pen : ℕ) (c r : ℤ)
    → is_black (edges_at way pen o) (column_x f.margin c) (row_y f r)
    ≡ is_black (edges_at way 0 o) (centre (c -ℤ pos (pen + f.margin))) (centre (line_of f r))
edges_there f way o pen c r =
    let column : column_x f.margin (c -ℤ pos pen) ≡ centre (c -ℤ pos (pen + f.margin)) = omega (arith, ints) in
    let row : row_y f r ≡ centre (line_of f r) = omega (arith, ints) in
    from_pen f.margin way o pen c (row_y f r)
    ∙ ap (λ x. is_black (edges_at way 0 o) x (row_y f r)) column
    ∙ ap (is_black (edges_at way 0 o) (centre (c -ℤ pos (pen + f.margin)))) row

outline_there : (f : Frame) (filled : Option BoxedRules) (way : ChordRule) (o : Outline) (pen : ℕ) (c r : ℤ)
    → (is_black (edges_at way pen o) (column_x f.margin c) (row_y f r)
    || is_filled (filled_at pen filled) (contours_of way pen o) (c -ℤ pos f.margin) (line_of f r))
    ≡ outline_black filled way o (c -ℤ pos (pen + f.margin)) (line_of f r)
outline_there f filled way o pen c r =
    ap (λ b. b || is_filled (filled_at pen filled) (contours_of way pen o) (c -ℤ pos f.margin) (line_of f r))
    (edges_there f way o pen c r)
    ∙ ap (λ b. is_black (edges_at way 0 o) (centre (c -ℤ pos (pen + f.margin))) (centre (line_of f r)) || b)
    (filled_there f filled way o pen c r)

pub shapes_black : (maker : ℕ → Fitter) (f : Frame) (gs : List (ℕ × ℕ)) (glyphs : List Shape) (c r : ℤ)
    → each (glyph_shape maker) gs ≡ Ok glyphs → is_ink f glyphs c r ≡ line_black maker f gs c r
shapes_black maker f [] glyphs c r made =
    let none : glyphs ≡ [] = cc in
    rw none refl
shapes_black maker f (g ∷ gs) glyphs c r made =
    let one = first_of maker g gs glyphs made in
    let s = maker g.0 in
    let o = one.outline in
    let filled = filled_by s g.0 o in
    let way = chords_with s in
    let k = c -ℤ pos f.margin in
    let at = c -ℤ pos (g.1 + f.margin) in
    let j = line_of f r in
    ap (λ (ss : List Shape). is_ink f ss c r) one.all
    ∙ exchanged (is_black (edges_at way g.1 o) (column_x f.margin c) (row_y f r))
    (some_black one.rest (column_x f.margin c) (row_y f r)) (is_filled (filled_at g.1 filled) (contours_of way g.1 o) k j)
    (some_dropout one.rest k j)
    ∙ ap (λ b. b || is_ink f one.rest c r) (outline_there f filled way o g.1 c r)
    ∙ ap (λ b. outline_black filled way o at j || b) (shapes_black maker f gs one.rest c r one.others)
    ∙ ap (λ (x : Result Outline Fault). fitted_black s g.0 x at j || line_black maker f gs c r) (sym one.fitted)

-- the measure of a line

ok_same : {X E : Type 0} (x y : X) → ◌≡◌ {A = Result X E} (Ok x) (Ok y) → x ≡ y
ok_same x y is = cc

same_setting : {E : Type 0} (r : Result Fitter E) (s t : Fitter) → r ≡ Ok s → r ≡ Ok t → s ≡ t
same_setting r s t one other = cc

boxes_are : (m : Metrics) (step : ℕ → ℤ → ℕ) (f : Frame) (maker : ℕ → Fitter) (gs : List (ℕ × ℕ))
    → map (λ (c : CharacterMeasure). c.ink) (characters_at m step f (λ g. glyph_ink (maker g) g) gs)
    ≡ boxes maker f gs
boxes_are m step f maker [] = refl
boxes_are m step f maker (g ∷ gs) =
    ap (λ (bs : List (Option InkBox)). ink_at f g.1 (glyph_ink (maker g.0) g.0) ∷ bs) (boxes_are m step f maker gs)

measure_is : (face : Face) (a : Job) (line : Placement) (m : Measure) (s : Fitter) → setting_in face a ≡ Ok s
    → measured_line face a line ≡ Ok m → measure_by face.metrics (line_step face a s line) a.margin (line_ink s line) line ≡ m
unfolding measured_line
measure_is face a line m s made is =
    let by_setting = came-through (as_font (setting_in face a)) _ m is in
    let other = by_setting.value in
    let by_shapes = came-through (line_shapes other a line) _ m by_setting.rest in
    let same = same_setting (setting_in face a) s other made (of-font (setting_in face a) other by_setting.first) in
    ap (λ (t : Fitter). measure_by face.metrics (line_step face a t line) a.margin (line_ink t line) line) same
    ∙ ok_same (measure_by face.metrics (line_step face a other line) a.margin (line_ink other line) line) m by_shapes.rest

-- the box of a measure is that of what the line's glyphs blacken
pub line_held : BoxLaws → (face : Face) (a : Job) (line : Placement) (m : Measure) (s : Fitter)
    → setting_in face a ≡ Ok s → measured_line face a line ≡ Ok m
    → IsInk (line_black (line_fitter s (map (λ g. g.0) line.glyphs)) (frame_of line a.margin) line.glyphs) (seen m.ink)
line_held laws face a line m s made is =
    let maker = line_fitter s (map (λ (g : ℕ × ℕ). g.0) line.glyphs) in
    let f = frame_of line a.margin in
    let held = held_after laws maker f line.glyphs (λ c r. false) None (λ c r. refl) in
    let found : all_joined None (boxes maker f line.glyphs) ≡ m.ink =
    ap (all_joined None) (sym (boxes_are face.metrics (line_step face a s line) f maker line.glyphs))
    ∙ ap (λ (m : Measure). m.ink) (measure_is face a line m s made is) in
    subst (λ (x : Option InkBox). IsInk (line_black maker f line.glyphs) (seen x)) found held

pub measure_holds_ink : BoxLaws → MeasureHoldsInk
measure_holds_ink laws face a line m glyphs is are =
    let maker = line_fitter are.setting (map (λ (g : ℕ × ℕ). g.0) line.glyphs) in
    let f = frame_of line a.margin in
    box_of (is_ink f glyphs) m.ink
    (ink_alike (line_black maker f line.glyphs) (is_ink f glyphs) (seen m.ink)
    (λ c r. shapes_black maker f line.glyphs glyphs c r are.fitted) (line_held laws face a line m are.setting are.made is))
