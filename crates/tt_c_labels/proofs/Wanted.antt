-- Which part of a request refuses its label, and what the label is.
use Rattle.std.proofs.Common.{◌≡◌, ℕ, List, Option, Ok, Err, inl, inr, refl}
use Rattle.std.specs.Prelude.{IfSome}
use Rattle.tt_core.specs.declared.draw_fault.DrawFault.{DrawFault}
use Rattle.tt_core.specs.Outcomes.{draw_font_fault}
use Rattle.tt_face.specs.Faces.{Face}
use Rattle.tt_strike.specs.Refusals.{refusal}
use Rattle.tt_c_calls.specs.declared.fault.CallFault.{CallFault}
use Rattle.tt_c_calls.specs.Refusals.{as_call, call_font_fault, call_of_draw, call_refusal}
use Rattle.tt_c_calls.proofs.Answered.{draw_refused, draw_tells, first_stops}
use Rattle.tt_c_calls.proofs.StrikeLines.{if_some_more}
use Rattle.tt_c_labels.specs.declared.request.CLabelJob.{CLabelJob}
use Rattle.tt_c_labels.specs.Requests.{LabelAsked, label_asked}
use Rattle.tt_c_labels.specs.Labels.{IsDrawnDefect, IsLabelDefect, IsLabelFaceDefect, LabelImage, composed_job, label_drawn, label_opened, label_wanted, some_label}

pub request_stops : (j : CLabelJob) (text file : List ℕ) (e : CallFault)
    → IfSome (call_refusal e) (λ why. label_asked j text ≡ Err why)
    → IfSome (call_refusal e) (λ why. label_wanted j text file ≡ Err why)
unfolding label_wanted
request_stops j text file e is = first_stops (label_asked j text) _ e is

pub font_stops : (j : CLabelJob) (text file : List ℕ) (a : LabelAsked) (e : CallFault) → label_asked j text ≡ Ok a
    → IfSome (call_refusal e) (λ why. label_opened j file ≡ Err why)
    → IfSome (call_refusal e) (λ why. label_wanted j text file ≡ Err why)
unfolding label_wanted
font_stops j text file a e is stops = rw is (first_stops (label_opened j file) _ e stops)

pub picture_stops : (j : CLabelJob) (text file : List ℕ) (a : LabelAsked) (face : Face) (d : DrawFault)
    → label_asked j text ≡ Ok a → label_opened j file ≡ Ok face
    → IfSome (refusal d) (λ why. label_drawn a.align a.space face (composed_job face.cmap a.job) ≡ Err why)
    → IfSome (call_refusal (call_of_draw d)) (λ why. label_wanted j text file ≡ Err why)
unfolding label_wanted
picture_stops j text file a face d is read stops =
    let drawn = label_drawn a.align a.space face (composed_job face.cmap a.job) in
    rw (is, read) (first_stops (as_call drawn) some_label (call_of_draw d) (draw_refused drawn d stops))

pub label_is : (j : CLabelJob) (text file : List ℕ) (a : LabelAsked) (face : Face) (i : Option LabelImage)
    → label_asked j text ≡ Ok a → label_opened j file ≡ Ok face
    → label_drawn a.align a.space face (composed_job face.cmap a.job) ≡ Ok i → label_wanted j text file ≡ some_label i
unfolding label_wanted
label_is j text file a face i is read drawn = rw (is, read, drawn) refl

-- the defects

pub font_defect : (j : CLabelJob) (text file : List ℕ) (e : CallFault)
    → IfSome (call_font_fault e) (IsLabelFaceDefect j file)
    → IfSome (call_font_fault e) (IsLabelDefect j text file)
font_defect j text file e = if_some_more (call_font_fault e) _ _ (λ f h. inl h)

pub picture_defect : (j : CLabelJob) (text file : List ℕ) (a : LabelAsked) (face : Face) (d : DrawFault)
    → label_asked j text ≡ Ok a → label_opened j file ≡ Ok face
    → IfSome (draw_font_fault d) (IsDrawnDefect a face) → IfSome (call_font_fault (call_of_draw d)) (IsLabelDefect j text file)
picture_defect j text file a face d is read stands =
    if_some_more (call_font_fault (call_of_draw d)) _ _ (λ f h. rw (is, read) (inr h)) (draw_tells _ d stands)
