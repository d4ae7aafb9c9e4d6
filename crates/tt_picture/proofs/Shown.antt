-- The pixels of lines by the outlines of their glyphs are those of drawn glyphs at their places.
use Rattle.std.proofs.Common.{◌≡◌, ◌∙◌, refl, sym, ap, ap₂, ℕ, Bool, true, false, ◌&&◌, ◌||◌, ◌==◌, ℤ, pos, ◌-ℤ◌, List, [], ◌∷◌, Result, Ok, Err, inl, inr, arith}
use Rattle.std.specs.Prelude.{All}
use Rattle.std.proofs.lemmas.Bool.{cases_eq}
use Rattle.std.proofs.lemmas.Bool.Decides.{nat_tests}
use Rattle.std.proofs.lemmas.Int.{ints}
use Rattle.std.proofs.lemmas.List.Elements.{All-head, All-tail}
use Rattle.tt_core.specs.Faults.{Fault}
use Rattle.tt_core.specs.Outcomes.{each}
use Rattle.tt_fit.specs.Fitting.{Fitter, fitted_outline}
use Rattle.tt_fit.specs.outline.Outline.{Outline}
use Rattle.tt_glyph_pixels.specs.Shown.{is_filled, shows}
use Rattle.tt_picture.specs.Distinct.{is_among}
use Rattle.tt_picture.specs.Glyphs.{AreDrawn, Glyph, IsDrawn, body_shows, numbers_of}
use Rattle.tt_picture.specs.Lines.{HasGlyphsOf, is_shown, line_shows, some_line_shows}
use Rattle.tt_picture.specs.Pictures.{image, picture}
use Rattle.tt_picture.specs.Pixels.{Shape, is_black_pixel, some_black, some_filled}
use Rattle.tt_picture.specs.Placed.{in_bitmap, in_edges, lines_have, number_has, place_has}
use Rattle.tt_picture.specs.Shapes.{chords_with, contours_of, edges_at, filled_at, filled_by, glyph_shape, shape_at}
use Rattle.tt_picture.specs.declared.lines.PlacedLine.{PlacedLine}
use Rattle.tt_picture.proofs.Alike.{image_alike}
use Rattle.tt_picture.proofs.Blackened.{absorbed, both_more, or_false}
use Rattle.tt_picture.proofs.Placed.{lines_parts, number_parts}
use Rattle.tt_picture.proofs.Standings.{filled_from_pen, from_pen}
use Rattle.tt_scan_dropouts.specs.Pictures.{column_at, line_at}
use Rattle.tt_scan_edges.specs.Winding.{is_black, column_x, row_y}
use Rattle.tt_scan_edges.specs.declared.edge.Frame.{Frame}
use Rattle.tt_scan_gaps.specs.Crossings.{centre}

-- the pixels at pen 0 of an outline, where there is one; of the glyph with a number, by its fitter
abbrev outline_shows : Fitter → ℕ → Result Outline Fault → ℤ → ℤ → Bool
outline_shows s n (Ok o) c j = shows (edges_at (chords_with s) 0 o) (contours_of (chords_with s) 0 o) (filled_by s n o) c j
outline_shows s n (Err fault) c j = false

abbrev pub number_shows : (ℕ → Fitter) → ℕ → ℤ → ℤ → Bool
number_shows maker n c j = outline_shows (maker n) n (fitted_outline (maker n) n) c j

-- ---- drawn glyphs

body_is : (s : Fitter) (g : Glyph) (c j : ℤ) → IsDrawn s g
    → body_shows g.body c j ≡ outline_shows s g.number (fitted_outline s g.number) c j
body_is s g c j drawn = rw drawn.outline (drawn.body.pixels c j)

one_drawn : (maker : ℕ → Fitter) (g : Glyph) (gs : List Glyph) (n : ℕ) (c j : ℤ) → n ≡ g.number → IsDrawn (maker g.number) g
    → number_has body_shows gs n c j ≡ (is_among n (numbers_of gs) && number_shows maker n c j)
    → number_has body_shows (g ∷ gs) n c j ≡ number_shows maker n c j
one_drawn maker g gs n c j same drawn rest =
    let here : (n == g.number) ≡ true = grind (arith, nat_tests, same) in
    let its : body_shows g.body c j ≡ number_shows maker n c j = rw same (body_is (maker g.number) g c j drawn) in
    rw here (ap₂ (λ a b. a || b) its rest ∙ absorbed (is_among n (numbers_of gs)) (number_shows maker n c j))

-- a number that drawn glyphs have shows what they show
pub number_is : (maker : ℕ → Fitter) (gs : List Glyph) (n : ℕ) (c j : ℤ) → AreDrawn maker gs
    → number_has body_shows gs n c j ≡ (is_among n (numbers_of gs) && number_shows maker n c j)
number_is maker [] n c j drawn = refl
number_is maker (g ∷ gs) n c j drawn =
    let rest = number_is maker gs n c j (All-tail (λ g. IsDrawn (maker g.number) g) g gs drawn) in
    elim (cases_eq n g.number) [
      | inl same ↦
          let test : (g.number == n) ≡ true = grind (arith, nat_tests, same) in
          one_drawn maker g gs n c j same (All-head (λ g. IsDrawn (maker g.number) g) g gs drawn) rest
          ∙ sym (ap (λ b. (b || is_among n (numbers_of gs)) && number_shows maker n c j) test)
      | inr other ↦
          let here : (n == g.number) ≡ false = grind (arith, nat_tests, other) in
          let test : (g.number == n) ≡ false = grind (arith, nat_tests, other) in
          rw (here, test) rest
    ]

place_is : (maker : ℕ → Fitter) (gs : List Glyph) (f : Frame) (line : List (ℕ × ℕ)) (c r : ℕ) → AreDrawn maker gs
    → HasGlyphsOf (numbers_of gs) line
    → place_has (number_has body_shows gs) f line c r ≡ place_has (number_shows maker) f line c r
place_is maker gs f [] c r drawn among = refl
place_is maker gs f (p ∷ ps) c r drawn among =
    let k = column_at f p.1 c in
    let j = line_at f r in
    let there : is_among p.0 (numbers_of gs) ≡ true = All-head (λ (g : ℕ × ℕ). is_among g.0 (numbers_of gs) ≡ true) p ps among in
    ap₂ (λ a b. a || b)
    (number_is maker gs p.0 k j drawn ∙ ap (λ b. b && number_shows maker p.0 k j) there)
    (place_is maker gs f ps c r drawn (All-tail (λ (g : ℕ × ℕ). is_among g.0 (numbers_of gs) ≡ true) p ps among))

-- ---- the outlines of a line

there_is : (maker : ℕ → Fitter) (gs : List Glyph) (n : ℕ) → AreDrawn maker gs → is_among n (numbers_of gs) ≡ true
    → (o : Outline) × (fitted_outline (maker n) n ≡ Ok o)
there_is maker [] n drawn is = absurd cc
there_is maker (g ∷ gs) n drawn is = elim (cases_eq n g.number) [
  | inl same ↦
      let one = All-head (λ g. IsDrawn (maker g.number) g) g gs drawn in
      (one.shape, rw same one.outline)
  | inr other ↦
      let test : (g.number == n) ≡ false = grind (arith, nat_tests, other) in
      there_is maker gs n (All-tail (λ g. IsDrawn (maker g.number) g) g gs drawn) (rw test at is)
]

-- an outline at a pen has the pixels of the outline at pen 0, counted from the pen
shape_is : (s : Fitter) (f : Frame) (p : ℕ × ℕ) (o : Outline) (c r : ℕ)
    → (is_black (edges_at (chords_with s) p.1 o) (column_x f.margin (pos c)) (row_y f (pos r))
    || is_filled (filled_at p.1 (filled_by s p.0 o)) (contours_of (chords_with s) p.1 o) (column_at f 0 c) (line_at f r))
    ≡ outline_shows s p.0 (Ok o) (column_at f p.1 c) (line_at f r)
shape_is s f p o c r =
    let way = chords_with s in
    let column : centre (column_at f p.1 c) ≡ column_x f.margin (pos c -ℤ pos p.1) = omega (arith, ints) in
    let line : centre (line_at f r) ≡ row_y f (pos r) = omega (arith, ints) in
    let inked = from_pen f.margin way o p.1 (pos c) (row_y f (pos r)) ∙ sym (ap₂ (is_black (edges_at way 0 o)) column line) in
    ap₂ (λ a b. a || b) inked (sym (filled_from_pen (filled_by s p.0 o) f way o p.1 c r))

-- the shapes of a line, and their pixels
abbrev pub AreShapes : (ℕ → Fitter) → List (ℕ × ℕ) → List Shape → Type 0
AreShapes maker line shapes = (each (glyph_shape maker) line ≡ Ok shapes)
    × ((f : Frame) (c r : ℕ) → is_black_pixel f shapes c r ≡ place_has (number_shows maker) f line c r)

both_made : {A B E : Type 0} (make : A → Result B E) (x : A) (xs : List A) (y : B) (ys : List B) → make x ≡ Ok y → each make xs ≡ Ok ys
    → each make (x ∷ xs) ≡ Ok (y ∷ ys)
both_made make x xs y ys one rest = rw (one, rest) refl

shape_made : (maker : ℕ → Fitter) (p : ℕ × ℕ) (o : Outline) → fitted_outline (maker p.0) p.0 ≡ Ok o
    → glyph_shape maker p ≡ Ok (shape_at (maker p.0) p o)
shape_made maker p o made = rw made refl

pub shapes_of : (maker : ℕ → Fitter) (gs : List Glyph) (line : List (ℕ × ℕ)) → AreDrawn maker gs → HasGlyphsOf (numbers_of gs) line
    → (shapes : List Shape) × AreShapes maker line shapes
shapes_of maker gs [] drawn among = ([], (refl, λ f c r. refl))
shapes_of maker gs (p ∷ ps) drawn among =
    let s = maker p.0 in
    let there : is_among p.0 (numbers_of gs) ≡ true = All-head (λ (g : ℕ × ℕ). is_among g.0 (numbers_of gs) ≡ true) p ps among in
    let made = there_is maker gs p.0 drawn there in
    let o = made.0 in
    let rest = shapes_of maker gs ps drawn (All-tail (λ (g : ℕ × ℕ). is_among g.0 (numbers_of gs) ≡ true) p ps among) in
    let shape = shape_at s p o in
    let pixels : (f : Frame) (c r : ℕ) → is_black_pixel f (shape ∷ rest.0) c r ≡ place_has (number_shows maker) f (p ∷ ps) c r = λ f c r.
    let k = column_at f p.1 c in
    let j = line_at f r in
    let its : outline_shows s p.0 (Ok o) k j ≡ number_shows maker p.0 k j =
    ap (λ (made : Result Outline Fault). outline_shows s p.0 made k j) (sym made.1) in
    both_more (is_black shape.edges (column_x f.margin (pos c)) (row_y f (pos r))) (some_black rest.0 (column_x f.margin (pos c)) (row_y f (pos r)))
    (is_filled shape.filled shape.contours (column_at f 0 c) (line_at f r)) (some_filled f rest.0 c r)
    ∙ ap₂ (λ a b. a || b) (shape_is s f p o c r ∙ its) (rest.1.1 f c r) in
    (shape ∷ rest.0, (both_made (glyph_shape maker) p ps shape rest.0 (shape_made maker p o made.1) rest.1.0, pixels))

-- ---- lines

line_is : (maker : ℕ → Fitter) (gs : List Glyph) (l : PlacedLine) (c r : ℕ) → AreDrawn maker gs
    → HasGlyphsOf (numbers_of gs) l.glyphs.now
    → place_has (number_has body_shows gs) l.frame l.glyphs.now c r ≡ line_shows maker l c r
line_is maker gs l c r drawn among =
    let shapes = shapes_of maker gs l.glyphs.now drawn among in
    place_is maker gs l.frame l.glyphs.now c r drawn among
    ∙ sym (ap (λ (made : Result (List Shape) Fault). is_shown l.frame made c r) shapes.1.0 ∙ shapes.1.1 l.frame c r)

lines_are : (maker : ℕ → Fitter) (gs : List Glyph) (lines : List PlacedLine) (c r : ℕ) → AreDrawn maker gs
    → All (λ l. HasGlyphsOf (numbers_of gs) l.glyphs.now) lines
    → lines_have (number_has body_shows gs) lines c r ≡ some_line_shows maker lines c r
lines_are maker gs [] c r drawn among = refl
lines_are maker gs (l ∷ ls) c r drawn among =
    ap₂ (λ a b. a || b)
    (line_is maker gs l c r drawn (All-head (λ l. HasGlyphsOf (numbers_of gs) l.glyphs.now) l ls among))
    (lines_are maker gs ls c r drawn (All-tail (λ l. HasGlyphsOf (numbers_of gs) l.glyphs.now) l ls among))

-- Lemma: the glyphs with bitmaps and those without, at their places in some lines, show what the lines show.
pub lines_shown : (maker : ℕ → Fitter) (gs : List Glyph) (lines : List PlacedLine) (c r : ℕ) → AreDrawn maker gs
    → All (λ l. HasGlyphsOf (numbers_of gs) l.glyphs.now) lines
    → (lines_have (number_has in_edges gs) lines c r || lines_have (number_has in_bitmap gs) lines c r) ≡ some_line_shows maker lines c r
lines_shown maker gs lines c r drawn among =
    sym (lines_parts (number_has body_shows gs) (number_has in_edges gs) (number_has in_bitmap gs) lines c r (number_parts gs))
    ∙ lines_are maker gs lines c r drawn among

-- ---- one line

-- Lemma: the image of a single line is the picture of the line's shapes.
pub one_line_image : (maker : ℕ → Fitter) (l : PlacedLine) (f : Frame) (shapes : List Shape) → l.frame ≡ f
    → each (glyph_shape maker) l.glyphs.now ≡ Ok shapes → image f (some_line_shows maker (l ∷ [])) ≡ picture f shapes
one_line_image maker l f shapes same made =
    image_alike f (some_line_shows maker (l ∷ [])) (is_black_pixel f shapes) (λ c r column row.
    or_false (line_shows maker l c r)
    ∙ ap₂ (λ (frame : Frame) (these : Result (List Shape) Fault). is_shown frame these c r) same made)
