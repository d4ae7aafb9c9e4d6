use Rattle.std.proofs.Common.{◌∙◌, ap, length, sym}
use Rattle.std.proofs.lemmas.Result.{err_from_is_err_and}
use Rattle.tt_strike.specs.Job.{job_view}
use Rattle.tt_strike.specs.Layouts.{pens_outcome}
use Rattle.tt_c_calls.specs.Asked.{IsAskedDefect, job_opening}
use Rattle.tt_c_calls.specs.Fonts.{job_opened, opened_wanted}
use Rattle.tt_c_calls.proofs.Answered.{draw_refused, drawn_too, first_stops}
use Rattle.tt_c_calls.proofs.AskedTables.{asked_tells, face_defects}
use Rattle.tt_c_calls.proofs.Counted.{asked_parts, pens_counted, units_counted}
use Rattle.tt_c_calls.proofs.LaidOut.{pens_of_face, pens_of_tables, line_stands, not_refused}
use Rattle.tt_c_calls.proofs.laying_out.pens_of.Goals as goal

pub returns-in_err-asked-clause-defects : goal.returns-in_err-asked-clause-defects
returns-in_err-asked-clause-defects c =
    let p = err_from_is_err_and c.from_residual.result c.from_residual.ensures.1 in
    let job = c.args.request.now.job.now in
    let text = c.args.request.now.text.now in
    rw (p.1, p.2) (asked_tells (IsAskedDefect job text c.args.request.now.font.now) job text c.in_err-asked.field-0.0 c.in_err-asked.ensures.exact)

pub returns-in_err-face-clause-exact : goal.returns-in_err-face-clause-exact
returns-in_err-face-clause-exact c =
    let p = err_from_is_err_and c.from_residual-in_err-face.result c.from_residual-in_err-face.ensures.1 in
    let font = c.args.request.now.font.now in
    let fault = c.in_err-face.field-0.0 in
    let is = pens_of_tables c.args.request.now.job.now c.args.request.now.text.now font (job_view c.in_ok-asked.asked) c.in_ok-asked.ensures.exact c.in_ok-test_job.ensures.exact in
    rw (p.1, p.2, is) (first_stops (job_opened c.args.request.now.job.now c.in_ok-asked.asked.fit font) _ fault
    c.in_err-face.ensures.exact)

pub returns-in_err-face-clause-defects : goal.returns-in_err-face-clause-defects
returns-in_err-face-clause-defects c =
    let p = err_from_is_err_and c.from_residual-in_err-face.result c.from_residual-in_err-face.ensures.1 in
    rw (p.1, p.2) (face_defects c.args.request.now.job.now c.args.request.now.text.now c.args.request.now.font.now
    (job_view c.in_ok-asked.asked) c.in_err-face.field-0.0 c.in_ok-asked.ensures.exact
    c.in_err-face.ensures.defects)

pub returns-in_err-sized-clause-exact : goal.returns-in_err-sized-clause-exact
returns-in_err-sized-clause-exact c =
    absurd (not_refused c.in_ok-asked.asked.ppem _ c.in_err-sized.ensures.refused c.in_ok-test_job.ensures.valid.low
    c.in_ok-test_job.ensures.valid.high)

pub returns-in_err-sized-clause-defects : goal.returns-in_err-sized-clause-defects
returns-in_err-sized-clause-defects c =
    absurd (not_refused c.in_ok-asked.asked.ppem _ c.in_err-sized.ensures.refused c.in_ok-test_job.ensures.valid.low
    c.in_ok-test_job.ensures.valid.high)

pub returns-in_err-placed-clause-exact : goal.returns-in_err-placed-clause-exact
returns-in_err-placed-clause-exact c =
    let read = c.in_ok-face.ensures.exact in
    let p = err_from_is_err_and c.from_residual-in_err-placed.result c.from_residual-in_err-placed.ensures.1 in
    let a = job_view c.in_ok-asked.asked in
    let face = c.in_ok-face.face in
    let is = pens_of_face c.args.request.now.job.now c.args.request.now.text.now c.args.request.now.font.now a face c.in_ok-asked.ensures.exact c.in_ok-test_job.ensures.exact read in
    rw (p.1, p.2, is) (draw_refused (pens_outcome face a) c.in_err-placed.field-0.0
    (rw c.in_ok-sized.ensures.exact at c.in_err-placed.ensures.exact))

pub returns-in_err-placed-clause-defects : goal.returns-in_err-placed-clause-defects
returns-in_err-placed-clause-defects c =
    let read = c.in_ok-face.ensures.exact in
    let p = err_from_is_err_and c.from_residual-in_err-placed.result c.from_residual-in_err-placed.ensures.1 in
    rw (p.1, p.2) (line_stands c.args.request.now.job.now c.args.request.now.text.now c.args.request.now.font.now
    (job_view c.in_ok-asked.asked) c.in_ok-face.face c.in_err-placed.field-0.0 c.in_ok-asked.ensures.exact read
    (rw c.in_ok-sized.ensures.exact at c.in_err-placed.ensures.defects))

pub returns-in-Ok-clause-exact : goal.returns-in-Ok-clause-exact
returns-in-Ok-clause-exact c =
    let read = c.in_ok-face.ensures.exact in
    let is = pens_of_face c.args.request.now.job.now c.args.request.now.text.now c.args.request.now.font.now (job_view c.in_ok-asked.asked) c.in_ok-face.face
    c.in_ok-asked.ensures.exact c.in_ok-test_job.ensures.exact read in
    rw is (drawn_too _ _ (rw c.in_ok-sized.ensures.exact at c.in_ok-placed.ensures.exact))

pub returns-in-Ok-clause-offsets : goal.returns-in-Ok-clause-offsets
returns-in-Ok-clause-offsets c =
    let parts = asked_parts c.args.request.now.job.now c.args.request.now.text.now (job_view c.in_ok-asked.asked) c.in_ok-asked.ensures.exact in
    rw (c.reads_widely.ensures, parts.text) at c.in-Ok.ensures

pub returns-in-Ok-clause-count : goal.returns-in-Ok-clause-count
returns-in-Ok-clause-count c =
    let read = c.in_ok-face.ensures.exact in
    let a = job_view c.in_ok-asked.asked in
    let face = c.in_ok-face.face in
    let job = c.args.request.now.job.now in
    let text = c.args.request.now.text.now in
    let parts = asked_parts job text a c.in_ok-asked.ensures.exact in
    let offsets = rw (c.reads_widely.ensures, parts.text) at c.in-Ok.ensures in
    pens_counted face a _ (rw c.in_ok-sized.ensures.exact at c.in_ok-placed.ensures.exact)
    ∙ units_counted job text c.args.request.now.font.now a face c.in_ok-asked.ensures.exact read ∙ ap length (sym offsets)
