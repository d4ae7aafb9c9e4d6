-- The map of a job's text is that of the font's tables.
use Rattle.std.proofs.Common.{◌≡◌, ◌∙◌, ℕ, List, Ok, Err, inl, inr, refl}
use Rattle.std.specs.Prelude.{IfSome}
use Rattle.tt_core.specs.declared.fault.JobFault.{JobFault}
use Rattle.tt_core.specs.declared.draw_fault.DrawFault.{DrawFault}
use Rattle.tt_core.specs.declared.font_fault.FontFault.{FontFault}
use Rattle.tt_core.specs.Outcomes.{◌>>=◌, draw_fault_of_font, draw_font_fault, font_fault}
use Rattle.tt_face.specs.Faces.{Face}
use Rattle.tt_fit.specs.declared.programs.Fit.{Fit}
use Rattle.tt_strike.specs.Job.{text_tested}
use Rattle.tt_line.specs.Layout.{text_glyphs}
use Rattle.tt_strike.specs.Refusals.{as_font, job, refusal}
use Rattle.tt_c_calls.specs.declared.asked.CJob.{CJob}
use Rattle.tt_c_calls.specs.declared.fault.CallFault.{CallFault}
use Rattle.tt_c_calls.specs.Asked.{IsPlainFaceDefect, job_fit, job_instance, plain_of, text_asked}
use Rattle.tt_c_calls.specs.Fonts.{plain_opened}
use Rattle.tt_c_instances.specs.Maps.{IsAdvancesDefect, IsMapDefect, map_wanted, text_mapped, units_found}
use Rattle.tt_c_calls.specs.Refusals.{as_call, call_font_fault, call_of_draw, call_refusal, refused}
use Rattle.tt_c_calls.proofs.Answered.{by_opening, by_test, draw_tells, first_stops, font_refused}
use Rattle.tt_c_calls.proofs.AskedTables.{plain_face_opened}
use Rattle.tt_c_calls.proofs.Counted.{text_same}
use Rattle.tt_c_calls.proofs.StrikeLines.{if_some_more}

-- the request is refused before the font is looked at
pub fit_refuses : (j : CJob) (text font : List ℕ) (e : CallFault)
    → IfSome (call_refusal e) (λ why. job_fit j ≡ Err why) → IfSome (call_refusal e) (λ why. map_wanted j text font ≡ Err why)
unfolding map_wanted
fit_refuses j text font e is = first_stops (job_fit j) _ e is

pub text_refuses : (j : CJob) (text font : List ℕ) (how : Fit) (e : CallFault) → job_fit j ≡ Ok how
    → IfSome (call_refusal e) (λ why. text_asked text ≡ Err why)
    → IfSome (call_refusal e) (λ why. map_wanted j text font ≡ Err why)
unfolding map_wanted
text_refuses j text font how e fits is = rw fits (first_stops (text_asked text) _ e is)

pub long_refused : (j : CJob) (text font t : List ℕ) (how : Fit) (why : JobFault) → job_fit j ≡ Ok how
    → text_asked text ≡ Ok t → text_tested t ≡ Err why → map_wanted j text font ≡ Err (refused (job why))
unfolding map_wanted
long_refused j text font t how why fits is fails = rw (fits, is) (by_test (text_tested t) _ why fails)

-- and else by the font's tables
of_tables : (j : CJob) (text font t : List ℕ) (how : Fit) → job_fit j ≡ Ok how → text_asked text ≡ Ok t
    → text_tested t ≡ Ok tt
    → map_wanted j text font ≡ (plain_opened j how font >>= λ face. as_call (as_font (text_mapped t face)))
unfolding map_wanted
of_tables j text font t how fits is passes =
    rw (fits, is) (by_opening (text_tested t) (λ face. as_font (text_mapped t face)) (plain_of j how) (job_instance j) font
    passes)

pub face_refuses : (j : CJob) (text font t : List ℕ) (how : Fit) (e : CallFault) → job_fit j ≡ Ok how
    → text_asked text ≡ Ok t → text_tested t ≡ Ok tt
    → IfSome (call_refusal e) (λ why. plain_opened j how font ≡ Err why)
    → IfSome (call_refusal e) (λ why. map_wanted j text font ≡ Err why)
face_refuses j text font t how e fits is passes stops =
    rw (of_tables j text font t how fits is passes) (first_stops (plain_opened j how font) _ e stops)

pub by_opened : (j : CJob) (text font t : List ℕ) (how : Fit) (face : Face) → job_fit j ≡ Ok how
    → text_asked text ≡ Ok t → text_tested t ≡ Ok tt → plain_opened j how font ≡ Ok face
    → map_wanted j text font ≡ as_call (as_font (text_mapped t face))
by_opened j text font t how face fits is passes read = of_tables j text font t how fits is passes ∙ rw read refl

-- the defects

pub face_stands : (j : CJob) (text font : List ℕ) (how : Fit) (e : CallFault) → job_fit j ≡ Ok how
    → IfSome (call_font_fault e) (IsPlainFaceDefect j how font) → IfSome (call_font_fault e) (IsMapDefect j text font)
face_stands j text font how e fits = if_some_more (call_font_fault e) _ _ (λ f h. rw fits (inl h))

pub advances_stand : (j : CJob) (text font t : List ℕ) (how : Fit) (face : Face) (d : DrawFault) → job_fit j ≡ Ok how
    → text_asked text ≡ Ok t → plain_opened j how font ≡ Ok face → IfSome (draw_font_fault d) (IsAdvancesDefect face t)
    → IfSome (call_font_fault (call_of_draw d)) (IsMapDefect j text font)
advances_stand j text font t how face d fits is read stands =
    let same : t ≡ text = text_same text t is in
    if_some_more (call_font_fault (call_of_draw d)) (IsAdvancesDefect face text) (IsMapDefect j text font)
    (λ f h. rw (fits, plain_face_opened j how font face read) (inr h))
    (draw_tells _ d (rw same at stands))

-- the glyphs that are not found stop the map
pub found_stops : (face : Face) (t : List ℕ) (d : FontFault)
    → IfSome (font_fault d) (λ f. units_found face (text_glyphs face.cmap t) ≡ Err f)
    → IfSome (refusal (draw_fault_of_font d)) (λ why. as_font (text_mapped t face) ≡ Err why)
found_stops face t d is =
    font_refused (text_mapped t face) d (if_some_more (font_fault d) _ _ (λ f fails. rw fails refl) is)
