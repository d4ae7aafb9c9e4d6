-- A label that is laid out by the steps of its glyphs: where each part of the work stops.
use Rattle.std.proofs.Common.{◌≡◌, ◌∙◌, refl, ℕ, ℤ, true, List, Result, Ok, Err}
use Rattle.std.specs.Prelude.{IfSome}
use Rattle.tt_core.specs.declared.draw_fault.DrawFault.{DrawFault}
use Rattle.tt_core.specs.declared.draw_fault.DrawFault.TheVariants as draw
use Rattle.tt_core.specs.Faults.{Fault}
use Rattle.tt_core.specs.declared.fault.JobFault.{JobFault}
use Rattle.tt_core.specs.Outcomes.{JobGives, draw_font_fault}
use Rattle.tt_face.specs.Faces.{Face}
use Rattle.tt_fit.specs.Fitting.{Fitter}
use Rattle.tt_fit.specs.outline.Outline.{Outline}
use Rattle.tt_label.specs.Label.{label_by_steps, label_glyphs, label_placed, stepped_lines}
use Rattle.tt_label.specs.Made.{label_shapes}
use Rattle.tt_line.specs.declared.align.Align.{Align}
use Rattle.tt_line.specs.Labels.{label_placement}
use Rattle.tt_line.specs.Layout.{Placement}
use Rattle.tt_picture.specs.Steps.{step_by}
use Rattle.tt_strike.specs.Fitted.{outlines_made}
use Rattle.tt_strike.specs.Job.{Job, tested}
use Rattle.tt_strike.specs.Picture.{advance_with, outlines_tested, setting_in}
use Rattle.tt_strike.specs.Refusals.{Refused, as_font, refusal}
use Rattle.tt_strike.specs.Work.{is_bounded}
use Rattle.tt_strike.proofs.Stopped.{stops, stops_after}

-- the step of a glyph of a label, by its fitter
abbrev pub step_in : Face → Job → Fitter → ℕ → ℤ → ℕ
step_in face a s = step_by face.metrics a.ppem (advance_with s (label_glyphs face.cmap a.text))

-- a text that is tested is laid out by its steps
label_by : (face : Face) (a : Job) (how : Align) → tested a ≡ Ok tt → is_bounded a.fit ≡ true
    → label_placed face a how ≡ label_by_steps face a how
unfolding label_placed
label_by face a how passes bounded = rw (passes, bounded) refl

-- a stop at the outlines, and at the size of the picture
no_outlines : (face : Face) (a : Job) (how : Align) (r : Refused) → outlines_made face a.ppem a.fit (label_glyphs face.cmap a.text) ≡ Err r
    → label_by_steps face a how ≡ Err r
no_outlines face a how r fails =
    stops_after (as_font (setting_in face a)) (λ s. outlines_tested s a.fit (label_glyphs face.cmap a.text)) _ r fails

pub units_stop_label : (face : Face) (a : Job) (how : Align) (e : DrawFault) → tested a ≡ Ok tt → is_bounded a.fit ≡ true
    → IfSome (refusal e) (λ r. outlines_made face a.ppem a.fit (label_glyphs face.cmap a.text) ≡ Err r)
    → IfSome (refusal e) (λ r. label_shapes face a how ≡ Err r)
units_stop_label face a how e passes bounded =
    stops e (outlines_made face a.ppem a.fit (label_glyphs face.cmap a.text)) (label_shapes face a how)
    (λ r fails. rw (label_by face a how passes bounded, no_outlines face a how r fails) refl)

pub size_stops_label : {X : Type 0} (view : X → List Placement) (face : Face) (a : Job) (how : Align) (s : Fitter) (os : List Outline) (e : DrawFault) → tested a ≡ Ok tt
    → is_bounded a.fit ≡ true → setting_in face a ≡ Ok s
    → outlines_tested s a.fit (label_glyphs face.cmap a.text) ≡ Ok os
    → JobGives view (Err e) (label_placement face.metrics a.ppem a.margin how (stepped_lines face.metrics (step_in face a s) face.cmap a.text))
    → IfSome (refusal e) (λ r. label_shapes face a how ≡ Err r)
size_stops_label view face a how s os (draw.Font f) passes bounded there made gives = absurd gives
size_stops_label view face a how s os (draw.Job j) passes bounded there made gives =
    rw (label_by face a how passes bounded, there, made, gives) refl
size_stops_label view face a how s os draw.Memory passes bounded there made gives = tt

-- a label whose glyphs are made is laid out
pub label_laid : (face : Face) (a : Job) (how : Align) (s : Fitter) (os : List Outline) (lines : List Placement) → tested a ≡ Ok tt
    → is_bounded a.fit ≡ true → setting_in face a ≡ Ok s → outlines_tested s a.fit (label_glyphs face.cmap a.text) ≡ Ok os
    → label_placement face.metrics a.ppem a.margin how (stepped_lines face.metrics (step_in face a s) face.cmap a.text) ≡ Ok lines
    → label_placed face a how ≡ Ok lines
label_laid face a how s os lines passes bounded there made laid =
    label_by face a how passes bounded ∙ rw (there, made, laid) refl

-- laying out finds no defect of the font
pub size_tells_no_defect : {X Y : Type 0} (view : X → Y) (wanted : Result Y JobFault) (P : Fault → Type 0) (e : DrawFault)
    → JobGives view (Err e) wanted → IfSome (draw_font_fault e) P
size_tells_no_defect view wanted P (draw.Font f) gives = absurd gives
size_tells_no_defect view wanted P (draw.Job j) gives = tt
size_tells_no_defect view wanted P draw.Memory gives = tt
