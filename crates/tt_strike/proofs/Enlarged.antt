-- A line enlarged by the glyphs of the line: its refusals, and its glyphs.
use Rattle.std.proofs.Common.{◌≡◌, ◌∙◌, refl, ap, sym, ℕ, ◌+◌, ◌<◌, Bool, true, false, ◌||◌, nat_lt, if◌then◌else◌, ℤ, List, [], ◌∷◌, map, Option, Some, None, Result, Ok, Err, arith}
use Rattle.std.specs.Prelude.{All}
use Rattle.tt_core.specs.Limits.{height_limit, width_limit}
use Rattle.tt_core.specs.Outcomes.{each}
use Rattle.tt_core.specs.declared.fault.JobFault.{JobFault}
use Rattle.tt_core.specs.declared.fault.JobFault.TheVariants as fault
use Rattle.tt_fit.specs.Fitting.{Fitter}
use Rattle.tt_fit.specs.outline.Outline.{Outline}
use Rattle.tt_bitmap.specs.declared.ink.LeastBox.{LeastBox}
use Rattle.tt_line.specs.Layout.{Placement}
use Rattle.tt_metrics.specs.Metrics.{Metrics}
use Rattle.tt_picture.specs.Ink.{all_joined, ink_at}
use Rattle.tt_scan_edges.specs.declared.edge.Frame.{Frame}
use Rattle.tt_strike.specs.Work.{line_fitter}
use Rattle.tt_picture.specs.Glyphs.{Glyph}
use Rattle.tt_strike.specs.Enlarged.{IsEnlarged}
use Rattle.tt_strike.specs.Grown.{grown, grown_line, grown_placement, lacking, not_large, with_sides}
use Rattle.tt_strike.specs.Job.{Job}
use Rattle.tt_strike.specs.Made.{AreMade}
use Rattle.tt_strike.specs.Measures.{Measure, box_in, characters_at, measure_by, measured_line}
use Rattle.tt_strike.specs.declared.measuring.CharacterMeasure.{CharacterMeasure}
use Rattle.tt_picture.specs.Shapes.{chords_with, crossings_in, filled_by, glyph_shape, shape_at}
use Rattle.tt_strike.specs.Picture.{frame_of, laid_out}
use Rattle.tt_picture.specs.Pixels.{Shape}
use Rattle.tt_strike.specs.Refusals.{as_job, job}
use Rattle.tt_face.specs.Faces.{Face}
use Rattle.tt_picture.specs.declared.ink_box.InkBox.{InkBox}
use Rattle.tt_strike.proofs.FirstShape.{first_of}
use Rattle.tt_picture.proofs.Among.{of_same_glyphs}
use Rattle.tt_picture.proofs.Standings.{counts_from_pen, filling_from_pen}

-- the line of a laid-out text is enlarged
pub placed_as_laid : (face : Face) (a : Job) (l : Placement) → laid_out face a ≡ Ok l
    → grown_placement face a ≡ grown_line face a l
unfolding grown_placement
placed_as_laid face a l laid = rw laid refl

-- glyphs moved to the right
abbrev pub rightwards : ℕ → List (ℕ × ℕ) → List (ℕ × ℕ)
rightwards left gs = map (λ g. (g.0, g.1 + left)) gs

pub same_numbers : (left : ℕ) (gs : List (ℕ × ℕ)) → map (λ g. g.0) (rightwards left gs) ≡ map (λ g. g.0) gs
same_numbers left [] = refl
same_numbers left (g ∷ gs) = ap (λ (ns : List ℕ). g.0 ∷ ns) (same_numbers left gs)

pub known_rightwards : (count left : ℕ) (gs : List (ℕ × ℕ)) → All (λ (g : ℕ × ℕ). g.0 < count) gs
    → All (λ (g : ℕ × ℕ). g.0 < count) (rightwards left gs)
known_rightwards count left gs known = of_same_glyphs (λ n. n < count) gs (rightwards left gs) (same_numbers left gs) known

-- the numbers of an enlarged line's glyphs are those of the line
pub numbers_kept : {face : Face} {a : Job} {l larger : Placement} {gs : List Glyph} → IsEnlarged face a l larger gs
    → map (λ g. g.0) larger.glyphs ≡ map (λ g. g.0) l.glyphs
numbers_kept {l = l} e = rw e.moved (same_numbers e.left l.glyphs)

unmoved : (gs : List (ℕ × ℕ)) → rightwards 0 gs ≡ gs
unmoved [] = refl
unmoved (g ∷ gs) = let here : g.1 + 0 ≡ g.1 = omega arith in rw (here, unmoved gs) refl

-- each glyph of an enlarged line stands as many columns further to the right
by_size : (large : Bool) (l larger : Placement)
    → ◌≡◌ {A = Result Placement JobFault} (if large then Err fault.PictureLarge else Ok l) (Ok larger) → l ≡ larger
by_size true l larger is = absurd cc
by_size false l larger is = cc

as_large : (l larger : Placement) → not_large l ≡ Ok larger → l ≡ larger
unfolding not_large
as_large l larger is = by_size (nat_lt width_limit l.width || nat_lt height_limit l.height) l larger is

abbrev pub IsMoved : Placement → Placement → Type 0
IsMoved l larger = (left : ℕ) × (larger.glyphs ≡ rightwards left l.glyphs)

pub grown_moves : (l larger : Placement) (ink : Option InkBox) → grown l ink ≡ Ok larger → IsMoved l larger
grown_moves l larger None is = let same = by_size false l larger is in (0, rw (← same) (sym (unmoved l.glyphs)))
grown_moves l larger (Some b) is =
    let s = lacking l.width l.height b in
    let same : with_sides l s ≡ larger = as_large (with_sides l s) larger is in
    (s.left, rw (← same) refl)

-- the line is measured by the inks of its glyphs, and enlarged
by_measure : (face : Face) (a : Job) (l : Placement) (m : Measure) → measured_line face a l ≡ Ok m
    → grown_line face a l ≡ as_job (grown l m.ink)
unfolding grown_line
by_measure face a l m measured = rw measured refl

pub grown_as_measured : (face : Face) (a : Job) (l larger : Placement) (m : Measure) → measured_line face a l ≡ Ok m
    → grown l m.ink ≡ Ok larger → grown_line face a l ≡ Ok larger
grown_as_measured face a l larger m measured is = by_measure face a l m measured ∙ rw is refl

pub not_grown : (face : Face) (a : Job) (l : Placement) (m : Measure) (j : JobFault) → measured_line face a l ≡ Ok m
    → grown l m.ink ≡ Err j → grown_line face a l ≡ Err (job j)
not_grown face a l m j measured is = by_measure face a l m measured ∙ rw is refl

-- the ink of a line's characters is that of its glyphs at their pens
characters_ink : (m : Metrics) (step : ℕ → ℤ → ℕ) (f : Frame) (inked : ℕ → Option LeastBox) (gs : List (ℕ × ℕ))
    → map (λ (at : CharacterMeasure). at.ink) (characters_at m step f inked gs) ≡ map (λ (g : ℕ × ℕ). ink_at f g.1 (inked g.0)) gs
characters_ink m step f inked [] = refl
characters_ink m step f inked (g ∷ gs) =
    ap (λ (boxes : List (Option InkBox)). ink_at f g.1 (inked g.0) ∷ boxes) (characters_ink m step f inked gs)

pub measured_box : (m : Metrics) (step : ℕ → ℤ → ℕ) (margin : ℕ) (inked : ℕ → Option LeastBox) (l : Placement)
    → (measure_by m step margin inked l).ink ≡ box_in inked (frame_of l margin) l.glyphs
measured_box m step margin inked l =
    ap (λ (boxes : List (Option InkBox)). all_joined None boxes) (characters_ink m step (frame_of l margin) inked l.glyphs)

-- the same glyphs further to the right: they are made, and have as many crossings
record AreMoved (maker : ℕ → Fitter) (left : ℕ) (gs : List (ℕ × ℕ)) (shapes : List Shape) : Type 0 where
  pub larger : List Shape
  pub made : each (glyph_shape maker) (rightwards left gs) ≡ Ok larger
  pub crossings : crossings_in larger ≡ crossings_in shapes

one_moved : (s : Fitter) (g : ℕ × ℕ) (left : ℕ) (o : Outline) (these those : List Shape)
    → crossings_in those ≡ crossings_in these
    → crossings_in (shape_at s (g.0, g.1 + left) o ∷ those) ≡ crossings_in (shape_at s g o ∷ these)
one_moved s g left o these those same =
    let way = chords_with s in
    let filled = filled_by s g.0 o in
    rw (
      same,
      counts_from_pen way o (g.1 + left),
      counts_from_pen way o g.1,
      filling_from_pen filled way o (g.1 + left),
      filling_from_pen filled way o g.1,
    ) refl

moved_shapes : (maker : ℕ → Fitter) (left : ℕ) (gs : List (ℕ × ℕ)) (shapes : List Shape)
    → each (glyph_shape maker) gs ≡ Ok shapes → AreMoved maker left gs shapes
moved_shapes maker left [] shapes made =
    let none : shapes ≡ [] = cc in
    record { larger = []; made = refl; crossings = rw none refl }
moved_shapes maker left (g ∷ gs) shapes made =
    let one = first_of maker g gs shapes made in
    let rest = moved_shapes maker left gs one.rest one.others in
    let o = one.outline in
    let here : glyph_shape maker (g.0, g.1 + left) ≡ Ok (shape_at (maker g.0) (g.0, g.1 + left) o) = rw one.fitted refl in
    record {
      larger = shape_at (maker g.0) (g.0, g.1 + left) o ∷ rest.larger;
      made = rw (here, rest.made) refl;
      crossings = one_moved (maker g.0) g left o one.rest rest.larger rest.crossings ∙ sym (ap crossings_in one.all);
    }

-- the enlarged line is made without a refusal too, by the same glyphs
pub larger_made : (face : Face) (a : Job) (l larger : Placement) (left : ℕ) (gs : List Glyph) → AreMade face a l gs
    → larger.glyphs ≡ rightwards left l.glyphs → AreMade face a larger gs
larger_made face a l larger left gs made are =
    let s = made.setting in
    let numbers : map (λ g. g.0) larger.glyphs ≡ map (λ g. g.0) l.glyphs = rw are (same_numbers left l.glyphs) in
    let moved = moved_shapes (line_fitter s (map (λ g. g.0) l.glyphs)) left l.glyphs made.shapes made.fitted in
    record {
      setting = s;
      shapes = moved.larger;
      opened = made.opened;
      few = rw numbers made.few;
      fitted = rw (numbers, are) moved.made;
      seldom = rw (numbers, moved.crossings) made.seldom;
      drawn = rw numbers made.drawn;
      numbers = rw numbers made.numbers;
    }
