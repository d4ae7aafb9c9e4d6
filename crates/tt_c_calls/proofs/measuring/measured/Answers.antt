use Rattle.std.proofs.Common.{◌≡◌, List, ℕ, Result, Ok, Err, refl, ◌∙◌}
use Rattle.std.specs.Prelude.{IfOk}
use Rattle.std.proofs.lemmas.Result.{err_from_is_err_and}
use Rattle.tt_core.specs.Outcomes.{GivesUnless, ◌>>=◌}
use Rattle.tt_strike.specs.Job.{Job, job_view, tested}
use Rattle.tt_strike.specs.Measures.{measure_view}
use Rattle.tt_strike.specs.Report.{report_by}
use Rattle.tt_face.specs.Faces.{Face}
use Rattle.tt_strike.specs.declared.measuring.Measure.{Measure}
use Rattle.tt_c_calls.specs.declared.asked.CJob.{CJob}
use Rattle.tt_c_calls.specs.declared.fault.CallFault.{CallFault}
use Rattle.tt_c_calls.specs.Asked.{IsAskedDefect, asked, grows, job_opening}
use Rattle.tt_c_calls.specs.Fonts.{job_opened, opened_wanted}
use Rattle.tt_c_calls.specs.Measures.{IsMeasureOf, measure_wanted}
use Rattle.tt_render_settings.specs.Products.{measure_by}
use Rattle.tt_c_calls.specs.Refusals.{as_call, call_of_draw, call_refusal}
use Rattle.tt_c_calls.proofs.Answered.{draw_refused, draw_tells, drawn_too, first_stops}
use Rattle.tt_c_calls.proofs.AskedTables.{asked_defects, asked_tells, face_defects, face_opened, job_face_opened, of_tables}
use Rattle.tt_c_calls.proofs.measuring.measured.Goals as goal

by_tables : (j : CJob) (text font : List ℕ) (a : Job) → asked j text ≡ Ok a → tested a ≡ Ok tt
    → measure_wanted j text font
    ≡ (job_opened j a.fit font >>= λ face. as_call (measure_by (grows j) face a))
unfolding measure_wanted
by_tables j text font a is passes = of_tables (measure_by (grows j)) j text font a is passes

by_face : (j : CJob) (text font : List ℕ) (a : Job) (face : Face) → asked j text ≡ Ok a → tested a ≡ Ok tt
    → job_opened j a.fit font ≡ Ok face → measure_wanted j text font ≡ as_call (measure_by (grows j) face a)
by_face j text font a face is passes read = by_tables j text font a is passes ∙ rw read refl

is_measure : (j : CJob) (text font : List ℕ) (a : Job) (face : Face) (r : Result Measure CallFault)
    → asked j text ≡ Ok a → job_opened j a.fit font ≡ Ok face
    → GivesUnless call_refusal measure_view r (measure_wanted j text font)
    → IfOk r (λ m. report_by face a ≡ Ok m.report.unfitted.items)
    → IfOk r (λ m. IsMeasureOf j text font (measure_view m) m.report.unfitted.items)
is_measure j text font a face (Ok m) is read gives told = record {
  measure = gives;
  unfitted = rw (is, job_face_opened j a.fit font face read) told;
}
is_measure j text font a face (Err e) is read gives told = tt

pub returns-in_err-asked-clause-defects : goal.returns-in_err-asked-clause-defects
returns-in_err-asked-clause-defects c =
    let p = err_from_is_err_and c.from_residual.result c.from_residual.ensures.1 in
    let job = c.args.request.now.job.now in
    let text = c.args.request.now.text.now in
    rw (p.1, p.2) (asked_tells (IsAskedDefect job text c.args.request.now.font.now) job text c.in_err-asked.field-0.0 c.in_err-asked.ensures.exact)

pub returns-in_err-face-clause-exact : goal.returns-in_err-face-clause-exact
returns-in_err-face-clause-exact c =
    let p = err_from_is_err_and c.from_residual-in_err-face.result c.from_residual-in_err-face.ensures.1 in
    let font = c.args.request.now.font.now in
    let fault = c.in_err-face.field-0.0 in
    let is = by_tables c.args.request.now.job.now c.args.request.now.text.now font (job_view c.in_ok-asked.asked) c.in_ok-asked.ensures.exact c.in_ok-test_job.ensures.exact in
    rw (p.1, p.2, is) (first_stops (job_opened c.args.request.now.job.now c.in_ok-asked.asked.fit font) _ fault
    c.in_err-face.ensures.exact)

pub returns-in_err-face-clause-defects : goal.returns-in_err-face-clause-defects
returns-in_err-face-clause-defects c =
    let p = err_from_is_err_and c.from_residual-in_err-face.result c.from_residual-in_err-face.ensures.1 in
    rw (p.1, p.2) (face_defects c.args.request.now.job.now c.args.request.now.text.now c.args.request.now.font.now
    (job_view c.in_ok-asked.asked) c.in_err-face.field-0.0 c.in_ok-asked.ensures.exact
    c.in_err-face.ensures.defects)

pub returns-in_err-measure-clause-exact : goal.returns-in_err-measure-clause-exact
returns-in_err-measure-clause-exact c =
    let read = c.in_ok-face.ensures.exact in
    let p = err_from_is_err_and c.from_residual-in_err-measure.result c.from_residual-in_err-measure.ensures.1 in
    let j = c.args.request.now.job.now in
    let a = job_view c.in_ok-asked.asked in
    let face = c.in_ok-face.face in
    let is = by_face j c.args.request.now.text.now c.args.request.now.font.now a face c.in_ok-asked.ensures.exact c.in_ok-test_job.ensures.exact
    read in
    rw (p.1, p.2, is) (draw_refused (measure_by (grows j) face a) c.in_err-measure.field-0.0
    (rw (c.in_ok-strike.ensures.exact, c.grows.ensures) at c.in_err-measure.ensures.exact))

pub returns-in_err-measure-clause-defects : goal.returns-in_err-measure-clause-defects
returns-in_err-measure-clause-defects c =
    let read = c.in_ok-face.ensures.exact in
    let none = c.in_ok-face.ensures.defects in
    let p = err_from_is_err_and c.from_residual-in_err-measure.result c.from_residual-in_err-measure.ensures.1 in
    let d = c.in_err-measure.field-0.0 in
    let tells = rw c.in_ok-strike.ensures.exact at c.in_err-measure.ensures.defects in
    rw (p.1, p.2) (asked_defects {V = Measure} c.args.request.now.job.now c.args.request.now.text.now c.args.request.now.font.now
    (job_view c.in_ok-asked.asked) c.in_ok-face.face (Err (call_of_draw d)) c.in_ok-asked.ensures.exact
    read none (draw_tells _ d tells))

pub returns-clause-exact : goal.returns-clause-exact
returns-clause-exact c =
    let read = c.in_ok-face.ensures.exact in
    let is = by_face c.args.request.now.job.now c.args.request.now.text.now c.args.request.now.font.now (job_view c.in_ok-asked.asked) c.in_ok-face.face
    c.in_ok-asked.ensures.exact c.in_ok-test_job.ensures.exact read in
    rw is (drawn_too _ _ (rw (c.in_ok-strike.ensures.exact, c.grows.ensures) at c.in_ok-measure.ensures.exact))

pub returns-clause-measure : goal.returns-clause-measure
returns-clause-measure c =
    let read = c.in_ok-face.ensures.exact in
    let job = c.args.request.now.job.now in
    let text = c.args.request.now.text.now in
    let font = c.args.request.now.font.now in
    let a = job_view c.in_ok-asked.asked in
    let face = c.in_ok-face.face in
    let is = by_face job text font a face c.in_ok-asked.ensures.exact c.in_ok-test_job.ensures.exact read in
    is_measure job text font a face (Ok c.in_ok-measure.measure) c.in_ok-asked.ensures.exact read
    (rw is (drawn_too _ _ (rw (c.in_ok-strike.ensures.exact, c.grows.ensures) at c.in_ok-measure.ensures.exact)))
    (rw c.in_ok-strike.ensures.exact at c.in_ok-measure.ensures.report)

pub returns-clause-defects : goal.returns-clause-defects
returns-clause-defects c =
    let read = c.in_ok-face.ensures.exact in
    let none = c.in_ok-face.ensures.defects in
    asked_defects {V = Measure} c.args.request.now.job.now c.args.request.now.text.now c.args.request.now.font.now (job_view c.in_ok-asked.asked)
    c.in_ok-face.face (Ok c.in_ok-measure.measure) c.in_ok-asked.ensures.exact read
    none (rw c.in_ok-strike.ensures.exact at c.in_ok-measure.ensures.defects)
