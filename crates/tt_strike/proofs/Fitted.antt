-- The glyphs of some units, fitted, and then drawn: where each part of the work stops, and what it is refused for.
use Rattle.std.proofs.Common.{◌≡◌, ◌∙◌, refl, sym, ap, ℕ, ◌<◌, true, List, map, Result, Ok, Err, inl, inr}
use Rattle.std.specs.Prelude.{IfOk, IfSome, IsOkAnd}
use Rattle.tt_core.specs.Chains.{was-err}
use Rattle.tt_core.specs.declared.draw_fault.DrawFault.{DrawFault}
use Rattle.tt_core.specs.declared.draw_fault.DrawFault.TheVariants as draw
use Rattle.tt_core.specs.declared.fault.JobFault.{JobFault}
use Rattle.tt_core.specs.declared.fault.JobFault.TheVariants as job_of
use Rattle.tt_core.specs.declared.font_fault.FontFault.{FontFault}
use Rattle.tt_core.specs.declared.font_fault.FontFault.TheVariants as font
use Rattle.tt_core.specs.Outcomes.{FontGives, GivesUnless, IfTold, draw_fault_of_font, draw_font_fault, draw_job_fault}
use Rattle.tt_face.specs.Faces.{Face}
use Rattle.tt_fit.specs.Fitting.{Fitter}
use Rattle.tt_fit.specs.declared.programs.Fit.{Fit}
use Rattle.tt_line.specs.Layout.{Placement, text_glyphs}
use Rattle.tt_picture.specs.Distinct.{distinct}
use Rattle.tt_picture.specs.declared.glyphs.Glyphs.{Glyphs}
use Rattle.tt_picture.specs.Fitted.{AreFitted, fitted_chords, fitted_numbers}
use Rattle.tt_picture.specs.Glyphs.{AreDrawn, Glyph, numbers_of}
use Rattle.tt_picture.specs.Pixels.{Shape}
use Rattle.tt_picture.specs.Shapes.{crossings_in}
use Rattle.tt_picture.proofs.Among.{all_among}
use Rattle.tt_picture.proofs.Outlines.{shapes_of_line}
use Rattle.tt_strike.specs.declared.fitting.FittedUnits.{FittedUnits}
use Rattle.tt_strike.specs.Costs.{cost_of, line_cost}
use Rattle.tt_strike.specs.Defects.{AsksTooMuch, IsLineRefusal}
use Rattle.tt_strike.specs.Fitted.{AreFittedUnits, outlines_made}
use Rattle.tt_strike.specs.Job.{Job}
use Rattle.tt_strike.specs.Made.{AreMade, shapes_made}
use Rattle.tt_strike.specs.Picture.{edges_tested, outlines_in, outlines_tested, points_tested, setting, setting_in, shapes_in, text_placed}
use Rattle.tt_strike.specs.Refusals.{as_font, as_job, job, refusal}
use Rattle.tt_strike.specs.Work.{asked_tested, edges_limited, is_bounded, line_fitter, work_left}
use Rattle.tt_strike.proofs.Costed.{costed}
use Rattle.tt_strike.proofs.Placed.{of-font, of-job}
use Rattle.tt_strike.proofs.Stepped.{chords_made, job_of_test, line_tells_no_defect, not_of_font}
use Rattle.tt_strike.proofs.Stopped.{asked_much, edges_tell, stops}

-- a stop in opening the fitter, or at the outlines
pub setting_stops_units : (face : Face) (ppem : ℕ) (how : Fit) (gs : List ℕ) (e : FontFault)
    → FontGives {X = Fitter} (λ f. f) (Err e) (setting face ppem how)
    → IfSome (refusal (draw_fault_of_font e)) (λ r. outlines_made face ppem how gs ≡ Err r)
setting_stops_units face ppem how gs (font.Font f) fails = rw fails refl
setting_stops_units face ppem how gs font.Memory fails = tt

pub outlines_stop_units : (face : Face) (ppem : ℕ) (how : Fit) (gs : List ℕ) (s : Fitter) (e : DrawFault) → setting face ppem how ≡ Ok s
    → IfSome (refusal e) (λ r. outlines_tested s how gs ≡ Err r) → IfSome (refusal e) (λ r. outlines_made face ppem how gs ≡ Err r)
outlines_stop_units face ppem how gs s e there =
    stops e (outlines_tested s how gs) (outlines_made face ppem how gs) (λ r fails. rw (there, fails) refl)

-- the job is refused there only for its points
points_tell : (face : Face) (ppem : ℕ) (how : Fit) (gs : List ℕ) (j : JobFault) → outlines_made face ppem how gs ≡ Err (job j)
    → (j ≡ job_of.WorkLarge) × (is_bounded how ≡ true) × IsOkAnd (setting face ppem how) (λ s. AsksTooMuch s gs)
points_tell face ppem how gs j fails = elim (was-err (as_font (setting face ppem how)) _ (job j) fails) [
  | inl first ↦ absurd (not_of_font (setting face ppem how) j first)
  | inr later ↦
      let s = later.value in
      let there = of-font (setting face ppem how) s later.first in
      let points = asked_tested how s gs in
      elim (was-err (as_job points) _ (job j) later.rest) [
        | inl first ↦
            let parts = asked_much how s gs j (job_of_test points j first) in
            (parts.0, parts.1, rw there parts.2)
        | inr after ↦ absurd (not_of_font (outlines_in s gs) j after.rest)
      ]
]

pub points_tell_refusal : (face : Face) (a : Job) (e : DrawFault)
    → IfSome (refusal e) (λ r. outlines_made face a.ppem a.fit (text_glyphs face.cmap a.text) ≡ Err r)
    → IfSome (draw_job_fault e) (IsLineRefusal face a)
points_tell_refusal face a (draw.Font f) fails = tt
points_tell_refusal face a (draw.Job j) fails =
    let parts = points_tell face a.ppem a.fit (text_glyphs face.cmap a.text) j fails in
    rw parts.0 (parts.1, inl parts.2)
points_tell_refusal face a draw.Memory fails = tt

-- the numbers of a line's glyphs
abbrev pub numbers_in : Placement → List ℕ
numbers_in l = map (λ (g : ℕ × ℕ). g.0) l.glyphs

-- the units of a line are fitted
abbrev pub AreFittedIn : Face → Job → Placement → FittedUnits → Fitter → Type 0
AreFittedIn face a l t s = AreFittedUnits face a.ppem a.fit (numbers_in l) t s

-- their points are few, and they have shapes
units_points : (face : Face) (a : Job) (l : Placement) (t : FittedUnits) (s : Fitter) → AreFittedIn face a l t s
    → as_job (points_tested s a l) ≡ Ok tt
units_points face a l t s is = rw is.points refl

pub units_shapes : (face : Face) (a : Job) (l : Placement) (t : FittedUnits) (s : Fitter) → AreFittedIn face a l t s
    → (shapes : List Shape) × (shapes_in s l ≡ Ok shapes)
units_shapes face a l t s is =
    shapes_of_line (line_fitter s (numbers_in l)) t.fitted.items l.glyphs is.fitted
    (all_among l.glyphs (fitted_numbers t.fitted.items) is.numbers)

units_edges : (face : Face) (a : Job) (l : Placement) (t : FittedUnits) (s : Fitter) (shapes : List Shape) → AreFittedIn face a l t s
    → edges_limited a.fit t.left (fitted_chords t.fitted.items) (crossings_in shapes) ≡ edges_tested s a l shapes
units_edges face a l t s shapes is =
    rw (is.work, chords_made s (numbers_in l) t.fitted.items is.fitted is.numbers) refl

-- a stop at their edges
edges_stop_units : (face : Face) (a : Job) (l : Placement) (t : FittedUnits) (s : Fitter) (shapes : List Shape) (e : DrawFault)
    → AreFittedIn face a l t s → shapes_in s l ≡ Ok shapes
    → IfSome (refusal e) (λ r. as_job (edges_limited a.fit t.left (fitted_chords t.fitted.items) (crossings_in shapes)) ≡ Err r)
    → IfSome (refusal e) (λ r. shapes_made face a l ≡ Err r)
edges_stop_units face a l t s shapes e is made =
    stops e (as_job (edges_limited a.fit t.left (fitted_chords t.fitted.items) (crossings_in shapes))) (shapes_made face a l)
    (λ r fails. let told = rw (units_edges face a l t s shapes is) at fails in
    rw (is.setting.exact, units_points face a l t s is, made, told) refl)

-- what that stop tells of a text's line
pub units_tell_refusal : (face : Face) (a : Job) (l : Placement) (t : FittedUnits) (s : Fitter) (e : DrawFault)
    → AreFittedIn face a l t s → text_placed face a ≡ Ok l
    → IfSome (refusal e) (λ r. shapes_made face a l ≡ Err r) → IfSome (draw_job_fault e) (IsLineRefusal face a)
units_tell_refusal face a l t s (draw.Font f) is placed fails = tt
units_tell_refusal face a l t s (draw.Job j) is placed fails =
    let shapes = units_shapes face a l t s is in
    let told = rw (is.setting.exact, units_points face a l t s is, shapes.1) at fails in
    elim (was-err (as_job (edges_tested s a l shapes.0)) _ (job j) told) [
      | inl first ↦
          let refused = edges_tell face a l s shapes.0 j is.setting.exact placed shapes.1 (job_of_test (edges_tested s a l shapes.0) j first) in
          rw refused.0 refused.1
      | inr later ↦ let never = later.rest in absurd cc
    ]
units_tell_refusal face a l t s draw.Memory is placed fails = tt

-- glyphs that are drawn, and whose edges are few
few_edges : (face : Face) (a : Job) (l : Placement) (t : FittedUnits) (s : Fitter) (shapes : List Shape) → AreFittedIn face a l t s
    → as_job (edges_limited a.fit t.left (fitted_chords t.fitted.items) (crossings_in shapes)) ≡ Ok tt
    → edges_tested s a l shapes ≡ Ok tt
few_edges face a l t s shapes is passes =
    of-job (edges_tested s a l shapes) tt (rw (units_edges face a l t s shapes is) at passes)

units_made : (face : Face) (a : Job) (l : Placement) (t : FittedUnits) (s : Fitter) (shapes : List Shape) (gs : List Glyph)
    → AreFittedIn face a l t s → shapes_in s l ≡ Ok shapes
    → as_job (edges_limited a.fit t.left (fitted_chords t.fitted.items) (crossings_in shapes)) ≡ Ok tt
    → AreDrawn (line_fitter s (numbers_in l)) gs → numbers_of gs ≡ fitted_numbers t.fitted.items → AreMade face a l gs
units_made face a l t s shapes gs is made passes drawn numbers = record {
  setting = s;
  shapes = shapes;
  opened = is.setting.exact;
  few = units_points face a l t s is;
  fitted = made;
  seldom = few_edges face a l t s shapes is passes;
  drawn = drawn;
  numbers = numbers ∙ is.numbers;
}

units_cost : (face : Face) (a : Job) (l : Placement) (t : FittedUnits) (s : Fitter) (shapes : List Shape) (n : ℕ)
    → AreFittedIn face a l t s → shapes_in s l ≡ Ok shapes
    → as_job (edges_limited a.fit t.left (fitted_chords t.fitted.items) (crossings_in shapes)) ≡ Ok tt
    → n ≡ cost_of t.left (crossings_in shapes) → line_cost face a l ≡ Ok n
units_cost face a l t s shapes n is made passes costs =
    costed face a l s shapes is.setting.exact (units_points face a l t s is) made (few_edges face a l t s shapes is passes)
    ∙ ap Ok (sym (costs ∙ ap (λ left. cost_of left (crossings_in shapes)) is.work))

-- the same of what the test of the edges gives
abbrev pub Tested : Job → FittedUnits → List Shape → Result Glyphs DrawFault → Type 0
Tested a t shapes result = GivesUnless refusal (λ (g : Glyphs). tt {0}) result
    (as_job (edges_limited a.fit t.left (fitted_chords t.fitted.items) (crossings_in shapes)))

pub drawn_made : (face : Face) (a : Job) (l : Placement) (t : FittedUnits) (s : Fitter) (shapes : List Shape) (result : Result Glyphs DrawFault)
    → AreFittedIn face a l t s → shapes_in s l ≡ Ok shapes → Tested a t shapes result
    → IfOk result (λ g. (maker : ℕ → Fitter) → AreFitted maker t.fitted.items → AreDrawn maker g.made.items)
    → IfOk result (λ g. numbers_of g.made.items ≡ fitted_numbers t.fitted.items)
    → IfOk result (λ g. AreMade face a l g.made.items)
drawn_made face a l t s shapes (Ok g) is made tested drawn numbers =
    units_made face a l t s shapes g.made.items is made tested (drawn (line_fitter s (numbers_in l)) is.fitted) numbers
drawn_made face a l t s shapes (Err e) is made tested drawn numbers = tt

pub drawn_cost : (face : Face) (a : Job) (l : Placement) (t : FittedUnits) (s : Fitter) (shapes : List Shape) (result : Result Glyphs DrawFault)
    → AreFittedIn face a l t s → shapes_in s l ≡ Ok shapes → Tested a t shapes result
    → IfOk result (λ g. g.cost ≡ cost_of t.left (crossings_in shapes))
    → IfOk result (λ g. line_cost face a l ≡ Ok g.cost)
drawn_cost face a l t s shapes (Ok g) is made tested costs = units_cost face a l t s shapes g.cost is made tested costs
drawn_cost face a l t s shapes (Err e) is made tested costs = tt

pub drawn_stops : (face : Face) (a : Job) (l : Placement) (t : FittedUnits) (s : Fitter) (shapes : List Shape) (result : Result Glyphs DrawFault)
    → AreFittedIn face a l t s → shapes_in s l ≡ Ok shapes → Tested a t shapes result
    → IfTold refusal result (λ r. shapes_made face a l ≡ Err r)
drawn_stops face a l t s shapes (Ok g) is made tested = tt
drawn_stops face a l t s shapes (Err e) is made tested = edges_stop_units face a l t s shapes e is made tested

pub drawn_tells_no_defect : (a : Job) (t : FittedUnits) (shapes : List Shape) (result : Result Glyphs DrawFault) → Tested a t shapes result
    → IfTold draw_font_fault result (λ f. ⊥)
drawn_tells_no_defect a t shapes (Ok g) tested = tt
drawn_tells_no_defect a t shapes (Err e) tested =
    line_tells_no_defect (λ f. ⊥) (edges_limited a.fit t.left (fitted_chords t.fitted.items) (crossings_in shapes)) e tested
