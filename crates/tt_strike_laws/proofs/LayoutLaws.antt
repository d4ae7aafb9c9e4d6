-- Laws of layouts.
use Rattle.std.proofs.Common.{◌≡◌, ◌∙◌, refl, sym, ap, ℕ, zero, suc, ◌+◌, ◌*◌, ◌<◌, Bool, true, false, List, [], ◌∷◌, chars, length, map, sum, take, Result, Ok, arith}
use Rattle.std.proofs.lemmas.List.{length-map}
use Rattle.std.proofs.lemmas.List.Sums.{sum_by-cons}
use Rattle.tt_cmap.specs.declared.units.TextUnit.{TextUnit}
use Rattle.tt_cmap.specs.Maps.{glyph_of_unit, units_by}
use Rattle.tt_core.specs.Chains.{came-through}
use Rattle.tt_advances.specs.Found.{advances_tested}
use Rattle.tt_advances.specs.Lines.{advance_line, advance_step}
use Rattle.tt_face.specs.Faces.{Face}
use Rattle.tt_line.specs.declared.measured.LineSize.{LineSize}
use Rattle.tt_line.specs.Layout.{pen_at, text_glyphs}
use Rattle.tt_line.specs.Steps.{linear_line, step_in_pixels}
use Rattle.tt_line.proofs.Stepped.{firsts}
use Rattle.tt_picture.specs.Steps.{step_by}
use Rattle.tt_line.specs.Sizes.{line_size}
use Rattle.tt_strike.specs.declared.layouts.Layout.{Layout}
use Rattle.tt_strike.specs.declared.layouts.Pen.{Pen}
use Rattle.tt_strike.specs.Job.{Job, tested}
use Rattle.tt_strike_laws.specs.LayoutLaws.{LayoutsAddUp, NoGlyphIsRead, advances_in, pen_in}
use Rattle.tt_strike.specs.Layouts.{layout_by, layout_outcome, pens_at, pens_outcome, size_by, size_outcome, steps_outcome}
use Rattle.tt_strike.specs.Picture.{advance_with, made_line, outlines_tested, setting_in}
use Rattle.tt_strike.specs.Refusals.{Refused, as_font, as_job}
use Rattle.tt_strike.specs.Work.{is_bounded}
use Rattle.tt_strike.proofs.TextSteps.{positive_height, sized_is, steps_by_advances}
use Rattle.tt_strike.proofs.Placed.{of-job}

-- by the same steps and the same tables
size_alike : (face other : Face) (a : Job) → steps_outcome other a ≡ steps_outcome face a → other.metrics ≡ face.metrics
    → size_outcome other a ≡ size_outcome face a
unfolding size_outcome
size_alike face other a steps metrics = rw (steps, metrics) (refl {a = size_outcome face a})

layout_alike : (face other : Face) (a : Job) → size_outcome other a ≡ size_outcome face a → other.cmap ≡ face.cmap
    → layout_outcome other a ≡ layout_outcome face a
unfolding layout_outcome
layout_alike face other a size cmap = rw (size, cmap) (refl {a = layout_outcome face a})

pens_alike : (face other : Face) (a : Job) → steps_outcome other a ≡ steps_outcome face a → other.metrics ≡ face.metrics
    → other.cmap ≡ face.cmap → pens_outcome other a ≡ pens_outcome face a
unfolding pens_outcome
pens_alike face other a steps metrics cmap = rw (steps, metrics, cmap) (refl {a = pens_outcome face a})

pub no_glyph_is_read : NoGlyphIsRead
no_glyph_is_read face other a unbounded off other_off metrics cmap =
    let steps : steps_outcome other a ≡ steps_outcome face a =
    rw (steps_by_advances other a unbounded other_off, steps_by_advances face a unbounded off, metrics, cmap) refl in
    (layout_alike face other a (size_alike face other a steps metrics) cmap, pens_alike face other a steps metrics cmap)

pub ok_same : {X : Type 0} (x y : X) → ◌≡◌ {A = Result X Refused} (Ok x) (Ok y) → x ≡ y
ok_same x y is = cc

pub glyphs_of_steps : (bounded : Bool) (face : Face) (a : Job) (steps : List (ℕ × ℕ)) → is_bounded a.fit ≡ bounded
    → steps_outcome face a ≡ Ok steps → map (λ (g : ℕ × ℕ). g.0) steps ≡ text_glyphs face.cmap a.text
unfolding steps_outcome
glyphs_of_steps true face a steps is was =
    let gs = text_glyphs face.cmap a.text in
    let by_setting = came-through (as_font (setting_in face a)) _ steps (rw is at was) in
    let s = by_setting.value in
    let by_outlines = came-through (outlines_tested s a.fit gs) _ steps by_setting.rest in
    let same = ok_same (made_line face.metrics a.ppem s gs) steps by_outlines.rest in
    rw (← same) (firsts face.metrics (step_by face.metrics a.ppem (advance_with s gs)) gs)
glyphs_of_steps false face a steps is was =
    let gs = text_glyphs face.cmap a.text in
    let by_test = came-through (as_font (advances_tested face gs)) _ steps (rw is at was) in
    let same = ok_same (advance_line face a.ppem gs) steps by_test.rest in
    rw (← same) (firsts face.metrics (advance_step face a.ppem) gs)

-- as many units as glyphs with steps, so each step is an advance
pub units_as_steps : (face : Face) (a : Job) (steps : List (ℕ × ℕ)) → steps_outcome face a ≡ Ok steps
    → length (units_by face.cmap (chars a.text)) ≡ length steps
units_as_steps face a steps was =
    let us = units_by face.cmap (chars a.text) in
    let glyphs = glyphs_of_steps (is_bounded a.fit) face a steps refl was in
    sym (length-map us (glyph_of_unit face.cmap)) ∙ ap length (sym glyphs) ∙ length-map steps (λ (g : ℕ × ℕ). g.0)

pub all_advances : (us : List TextUnit) (gs : List (ℕ × ℕ)) (pen : ℕ) → length us ≡ length gs
    → advances_in (pens_at us gs pen) ≡ map (λ (g : ℕ × ℕ). g.1) gs
all_advances [] [] pen many = refl
all_advances [] (g ∷ gs) pen many = absurd (omega (arith, many))
all_advances (u ∷ us) [] pen many = absurd (omega (arith, many))
all_advances (u ∷ us) (g ∷ gs) pen many =
    ap (λ (ns : List ℕ). g.1 ∷ ns) (all_advances us gs (pen + g.1) (omega (arith, many)))

pub pens_add : (us : List TextUnit) (gs : List (ℕ × ℕ)) (pen i : ℕ) → i < length (pens_at us gs pen)
    → (pen_in (pens_at us gs pen) i).pen ≡ pen + pen_at (advances_in (pens_at us gs pen)) i
pens_add [] gs pen i below = absurd (omega (arith, below))
pens_add (u ∷ us) [] pen i below = absurd (omega (arith, below))
pens_add (u ∷ us) (g ∷ gs) pen zero below = omega arith
pens_add (u ∷ us) (g ∷ gs) pen (suc i) below =
    let rest = pens_add us gs (pen + g.1) i (omega (arith, below)) in
    let more = sum_by-cons (λ (n : ℕ). n) g.1 (take i (advances_in (pens_at us gs (pen + g.1)))) in
    omega (arith, rest, more)

-- a layout and the pens of one job, by the same steps
record AreLaid (face : Face) (a : Job) (l : Layout) (ps : List Pen) : Type 0 where
  steps : List (ℕ × ℕ)
  size : LineSize
  made : steps_outcome face a ≡ Ok steps
  sized : line_size face.metrics a.ppem a.margin (sum (map (λ g. g.1) steps)) ≡ Ok size
  layout : l ≡ layout_by size a.margin (units_by face.cmap (chars a.text))
  pens : ps ≡ pens_at (units_by face.cmap (chars a.text)) steps a.margin

same_value : {X : Type 0} (r : Result X Refused) (x y : X) → r ≡ Ok x → r ≡ Ok y → x ≡ y
same_value r x y one other = cc

are_laid : (face : Face) (a : Job) (l : Layout) (ps : List Pen) → layout_outcome face a ≡ Ok l → pens_outcome face a ≡ Ok ps
    → AreLaid face a l ps
unfolding layout_outcome pens_outcome size_outcome
are_laid face a l ps laid penned =
    let by_size = came-through (size_outcome face a) _ l laid in
    let z = by_size.value in
    let by_test = came-through (as_job (tested a)) _ z by_size.first in
    let by_steps = came-through (steps_outcome face a) _ z by_test.rest in
    let steps = by_steps.value in
    let its_test = came-through (as_job (tested a)) _ ps penned in
    let its_steps = came-through (steps_outcome face a) _ ps its_test.rest in
    let its_size = came-through (size_by face a its_steps.value) _ ps its_steps.rest in
    let same = same_value (steps_outcome face a) its_steps.value steps its_steps.first by_steps.first in
    let us = units_by face.cmap (chars a.text) in
    let pens = sym (ok_same (pens_at us its_steps.value a.margin) ps its_size.rest) in
    record {
      steps = steps;
      size = z;
      made = by_steps.first;
      sized = of-job (line_size face.metrics a.ppem a.margin (sum (map (λ g. g.1) steps))) z by_steps.rest;
      layout = sym (ok_same (layout_by z a.margin us) l by_size.rest);
      pens = pens ∙ ap (λ (gs : List (ℕ × ℕ)). pens_at us gs a.margin) same;
    }

wide_as : (n m k : ℕ) → k ≡ n + 2 * m → k ≡ 2 * m + n
wide_as n m k is = omega (arith, is)

pub layouts_add_up : LayoutsAddUp
layouts_add_up face a l ps laid penned =
    let is = are_laid face a l ps laid penned in
    let us = units_by face.cmap (chars a.text) in
    let n = sum (map (λ (g : ℕ × ℕ). g.1) is.steps) in
    let size = sized_is face.metrics a.ppem a.margin n is.size is.sized in
    let advances : advances_in ps ≡ map (λ (g : ℕ × ℕ). g.1) is.steps =
    ap advances_in is.pens ∙ all_advances us is.steps a.margin (units_as_steps face a is.steps is.made) in
    let wide : is.size.width ≡ n + 2 * a.margin = ap (λ (z : LineSize). z.width) size in
    let high = positive_height face.metrics a.ppem a.margin n is.size is.sized in
    record {
      width = rw (is.layout, advances) (wide_as n a.margin is.size.width wide);
      pens = rw is.pens (λ i below. pens_add us is.steps a.margin i below);
      height = rw is.layout high;
      baseline = rw is.layout refl;
    }
