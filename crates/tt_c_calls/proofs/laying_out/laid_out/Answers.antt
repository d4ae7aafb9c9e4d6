use Rattle.std.proofs.lemmas.Result.{err_from_is_err_and}
use Rattle.tt_strike.specs.Job.{job_view}
use Rattle.tt_strike.specs.Layouts.{layout_outcome}
use Rattle.tt_c_calls.specs.Asked.{IsAskedDefect}
use Rattle.tt_c_calls.specs.Fonts.{job_opened}
use Rattle.tt_c_calls.proofs.Answered.{draw_refused, drawn_too, first_stops}
use Rattle.tt_c_calls.proofs.AskedTables.{asked_tells, face_defects}
use Rattle.tt_c_calls.proofs.LaidOut.{layout_of_face, layout_of_tables, line_stands, not_refused, reads_none, serves_draw, unbounded}
use Rattle.tt_c_calls.proofs.laying_out.laid_out.Goals as goal

pub returns-in_err-asked-clause-memory : goal.returns-in_err-asked-clause-memory
returns-in_err-asked-clause-memory c other none =
    let p = err_from_is_err_and c.from_residual.result c.from_residual.ensures.1 in
    rw (p.1, p.2) c.in_err-asked.ensures.memory

pub returns-in_err-asked-clause-defects : goal.returns-in_err-asked-clause-defects
returns-in_err-asked-clause-defects c =
    let p = err_from_is_err_and c.from_residual.result c.from_residual.ensures.1 in
    let job = c.args.request.now.job.now in
    let text = c.args.request.now.text.now in
    rw (p.1, p.2) (asked_tells (IsAskedDefect job text c.args.request.now.font.now) job text c.in_err-asked.field-0.0 c.in_err-asked.ensures.exact)

pub returns-in_err-face-clause-exact : goal.returns-in_err-face-clause-exact
returns-in_err-face-clause-exact c =
    let p = err_from_is_err_and c.from_residual-in_err-face.result c.from_residual-in_err-face.ensures.1 in
    let font = c.args.request.now.font.now in
    let fault = c.in_err-face.field-0.0 in
    let is = layout_of_tables c.args.request.now.job.now c.args.request.now.text.now font (job_view c.in_ok-asked.asked) c.in_ok-asked.ensures.exact c.in_ok-test_job.ensures.exact in
    rw (p.1, p.2, is) (first_stops (job_opened c.args.request.now.job.now c.in_ok-asked.asked.fit font) _ fault
    c.in_err-face.ensures.exact)

pub returns-in_err-face-clause-memory : goal.returns-in_err-face-clause-memory
returns-in_err-face-clause-memory c other none =
    let p = err_from_is_err_and c.from_residual-in_err-face.result c.from_residual-in_err-face.ensures.1 in
    rw (p.1, p.2) c.in_err-face.ensures.memory

pub returns-in_err-face-clause-defects : goal.returns-in_err-face-clause-defects
returns-in_err-face-clause-defects c =
    let p = err_from_is_err_and c.from_residual-in_err-face.result c.from_residual-in_err-face.ensures.1 in
    rw (p.1, p.2) (face_defects c.args.request.now.job.now c.args.request.now.text.now c.args.request.now.font.now
    (job_view c.in_ok-asked.asked) c.in_err-face.field-0.0 c.in_ok-asked.ensures.exact
    c.in_err-face.ensures.defects)

pub returns-in_err-sized-clause-exact : goal.returns-in_err-sized-clause-exact
returns-in_err-sized-clause-exact c =
    absurd (not_refused c.in_ok-asked.asked.ppem _ c.in_err-sized.ensures.refused c.in_ok-test_job.ensures.valid.low
    c.in_ok-test_job.ensures.valid.high)

pub returns-in_err-sized-clause-memory : goal.returns-in_err-sized-clause-memory
returns-in_err-sized-clause-memory c =
    absurd (not_refused c.in_ok-asked.asked.ppem _ c.in_err-sized.ensures.refused c.in_ok-test_job.ensures.valid.low
    c.in_ok-test_job.ensures.valid.high)

pub returns-in_err-sized-clause-defects : goal.returns-in_err-sized-clause-defects
returns-in_err-sized-clause-defects c =
    absurd (not_refused c.in_ok-asked.asked.ppem _ c.in_err-sized.ensures.refused c.in_ok-test_job.ensures.valid.low
    c.in_ok-test_job.ensures.valid.high)

pub returns-in_err-layout-clause-exact : goal.returns-in_err-layout-clause-exact
returns-in_err-layout-clause-exact c =
    let read = c.in_ok-face.ensures.exact in
    let p = err_from_is_err_and c.from_residual-in_err-layout.result c.from_residual-in_err-layout.ensures.1 in
    let a = job_view c.in_ok-asked.asked in
    let face = c.in_ok-face.face in
    let is = layout_of_face c.args.request.now.job.now c.args.request.now.text.now c.args.request.now.font.now a face c.in_ok-asked.ensures.exact c.in_ok-test_job.ensures.exact read in
    rw (p.1, p.2, is) (draw_refused (layout_outcome face a) c.in_err-layout.field-0.0
    (rw c.in_ok-sized.ensures.exact at c.in_err-layout.ensures.exact))

pub returns-in_err-layout-clause-memory : goal.returns-in_err-layout-clause-memory
returns-in_err-layout-clause-memory c other none =
    let p = err_from_is_err_and c.from_residual-in_err-layout.result c.from_residual-in_err-layout.ensures.1 in
    let job = c.args.request.now.job.now in
    let a = job_view c.in_ok-asked.asked in
    let free = unbounded job c.args.request.now.text.now a c.in_ok-asked.ensures.exact other in
    let unread = reads_none job a.fit c.args.request.now.font.now c.in_ok-face.face free none c.in_ok-face.ensures.exact in
    let memory = rw c.in_ok-sized.ensures.exact at c.in_err-layout.ensures.memory in
    rw (p.1, p.2) (serves_draw c.in_err-layout.field-0.0 (memory unread))

pub returns-in_err-layout-clause-defects : goal.returns-in_err-layout-clause-defects
returns-in_err-layout-clause-defects c =
    let read = c.in_ok-face.ensures.exact in
    let p = err_from_is_err_and c.from_residual-in_err-layout.result c.from_residual-in_err-layout.ensures.1 in
    rw (p.1, p.2) (line_stands c.args.request.now.job.now c.args.request.now.text.now c.args.request.now.font.now
    (job_view c.in_ok-asked.asked) c.in_ok-face.face c.in_err-layout.field-0.0 c.in_ok-asked.ensures.exact read
    (rw c.in_ok-sized.ensures.exact at c.in_err-layout.ensures.defects))

pub returns-clause-exact : goal.returns-clause-exact
returns-clause-exact c =
    let read = c.in_ok-face.ensures.exact in
    let is = layout_of_face c.args.request.now.job.now c.args.request.now.text.now c.args.request.now.font.now (job_view c.in_ok-asked.asked) c.in_ok-face.face
    c.in_ok-asked.ensures.exact c.in_ok-test_job.ensures.exact read in
    rw is (drawn_too _ _ (rw c.in_ok-sized.ensures.exact at c.in_ok-layout.ensures.exact))
