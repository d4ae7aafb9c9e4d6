use Rattle.std.proofs.lemmas.Result.{err_from_is_err_and}
use Rattle.std.specs.Prelude.{option_map}
use Rattle.tt_face.specs.Views.{asked_view}
use Rattle.tt_strike.specs.Job.{job_view}
use Rattle.tt_strike.specs.Picture.{pictured}
use Rattle.tt_strike.specs.Report.{report_of}
use Rattle.tt_render_run.proofs.Faces.{defect_tells, no_defect, refusal_tells, size_refuses, size_stops, size_tells, within}
use Rattle.tt_render_run.proofs.drawing.draw.Goals as goal

pub returns-clause-exact : goal.returns-clause-exact
unfolding pictured
returns-clause-exact c =
    let by = within (job_view c.args.job.now) c.in_ok-face.face c.requires.tested in
    rw (c.in_ok-face.ensures.exact, ← by) (rw c.in_ok-strike.ensures.exact at c.in_ok-picture.ensures.exact)

pub returns-clause-report : goal.returns-clause-report
unfolding report_of
returns-clause-report c =
    rw c.in_ok-face.ensures.exact (rw c.in_ok-strike.ensures.exact at c.in_ok-picture.ensures.report)

pub returns-clause-defects : goal.returns-clause-defects
returns-clause-defects c =
    no_defect c.args.job.now.opening (option_map asked_view c.args.instance) (job_view c.args.job.now) c.args.file.now c.in_ok-face.face
    c.in_ok-face.ensures.exact c.in_ok-face.ensures.sound (rw c.in_ok-strike.ensures.exact at c.in_ok-picture.ensures.defects)

pub returns-in_err-strike-clause-exact : goal.returns-in_err-strike-clause-exact
unfolding pictured
returns-in_err-strike-clause-exact c =
    let p = err_from_is_err_and c.from_residual-in_err-strike.result c.from_residual-in_err-strike.ensures.1 in
    let a = job_view c.args.job.now in
    let by = within a c.in_ok-face.face c.requires.tested in
    rw (p.1, p.2, c.in_ok-face.ensures.exact, ← by)
    (size_stops a c.in_ok-face.face c.in_err-strike.field-0.0 c.in_err-strike.ensures.tested)

pub returns-in_err-strike-clause-defects : goal.returns-in_err-strike-clause-defects
returns-in_err-strike-clause-defects c =
    let p = err_from_is_err_and c.from_residual-in_err-strike.result c.from_residual-in_err-strike.ensures.1 in
    rw (p.1, p.2) (size_tells _ c.in_err-strike.field-0.0 c.in_err-strike.ensures.font)

pub returns-in_err-strike-clause-job : goal.returns-in_err-strike-clause-job
returns-in_err-strike-clause-job c =
    let p = err_from_is_err_and c.from_residual-in_err-strike.result c.from_residual-in_err-strike.ensures.1 in
    let a = job_view c.args.job.now in
    let e = c.in_err-strike.field-0.0 in
    rw (p.1, p.2) (refusal_tells c.args.job.now.opening (option_map asked_view c.args.instance) a c.args.file.now c.in_ok-face.face e c.requires.asked c.in_ok-face.ensures.exact
    (size_refuses a c.in_ok-face.face e c.in_err-strike.ensures.refused))

pub returns-in_err-picture-clause-exact : goal.returns-in_err-picture-clause-exact
unfolding pictured
returns-in_err-picture-clause-exact c =
    let p = err_from_is_err_and c.from_residual-in_err-picture.result c.from_residual-in_err-picture.ensures.1 in
    let by = within (job_view c.args.job.now) c.in_ok-face.face c.requires.tested in
    rw (p.1, p.2, c.in_ok-face.ensures.exact, ← by) (rw c.in_ok-strike.ensures.exact at c.in_err-picture.ensures.exact)

pub returns-in_err-picture-clause-defects : goal.returns-in_err-picture-clause-defects
returns-in_err-picture-clause-defects c =
    let p = err_from_is_err_and c.from_residual-in_err-picture.result c.from_residual-in_err-picture.ensures.1 in
    rw (p.1, p.2) (defect_tells c.args.job.now.opening (option_map asked_view c.args.instance) (job_view c.args.job.now) c.args.file.now c.in_ok-face.face
    c.in_err-picture.field-0.0 c.in_ok-face.ensures.exact (rw c.in_ok-strike.ensures.exact at c.in_err-picture.ensures.defects))

pub returns-in_err-picture-clause-job : goal.returns-in_err-picture-clause-job
returns-in_err-picture-clause-job c =
    let p = err_from_is_err_and c.from_residual-in_err-picture.result c.from_residual-in_err-picture.ensures.1 in
    rw (p.1, p.2) (refusal_tells c.args.job.now.opening (option_map asked_view c.args.instance) (job_view c.args.job.now) c.args.file.now c.in_ok-face.face
    c.in_err-picture.field-0.0 c.requires.asked c.in_ok-face.ensures.exact (rw c.in_ok-strike.ensures.exact at c.in_err-picture.ensures.job))
