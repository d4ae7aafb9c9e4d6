use Rattle.std.proofs.Common.{◌≡◌, Ok}
use Rattle.std.proofs.lemmas.Result.{err_from_is_err_and}
use Rattle.tt_metrics.specs.Metrics.{units_per_em_of}
use Rattle.tt_c_calls.specs.declared.fault.CallFault.TheVariants as call
use Rattle.tt_c_calls.specs.Lines.{lines_wanted}
use Rattle.tt_c_calls.specs.Refusals.{call_font_fault}
use Rattle.tt_c_calls.proofs.LinesStopped.{face_refused, fit_defect, fit_refused, job_refused, lines_opened, of_setting}
use Rattle.tt_c_calls.proofs.StrikeLines.{if_some_more}
use Rattle.tt_c_calls.proofs.StrikeWanted.{height_stops, opened_small, strike_is, strike_stops, underline_is}
use Rattle.tt_c_calls.proofs.strikes.strike_for.Goals.{In_ok-face}
use Rattle.tt_c_calls.proofs.strikes.strike_for.Goals as goal

pub returns-in_err-fit-clause-exact : goal.returns-in_err-fit-clause-exact
returns-in_err-fit-clause-exact c =
    let p = err_from_is_err_and c.from_residual.result c.from_residual.ensures.1 in
    let j = c.args.job.now in
    let font = c.args.font.now in
    let fault = c.in_err-fit.field-0.0 in
    rw (p.1, p.2) (strike_stops j font fault (fit_refused j font fault c.in_err-fit.ensures.exact))

pub returns-in_err-fit-clause-defects : goal.returns-in_err-fit-clause-defects
returns-in_err-fit-clause-defects c =
    let p = err_from_is_err_and c.from_residual.result c.from_residual.ensures.1 in
    rw (p.1, p.2) (fit_defect c.args.job.now _ c.in_err-fit.field-0.0 c.in_err-fit.ensures.exact)

pub returns-in_err-test_job-clause-exact : goal.returns-in_err-test_job-clause-exact
returns-in_err-test_job-clause-exact c =
    let p = err_from_is_err_and c.from_residual-in_err-test_job.result c.from_residual-in_err-test_job.ensures.1 in
    let j = c.args.job.now in
    let font = c.args.font.now in
    let how = c.in_ok-fit.fit in
    let why = c.in_err-test_job.field-0.0 in
    let fails = of_setting j how _ _ _ _ c.job.ensures.exact c.plain.ensures c.in_err-test_job.ensures.exact in
    rw (p.1, p.2) (strike_stops j font (call.Job why) (job_refused j font how why c.in_ok-fit.ensures.exact fails))

pub returns-in_err-face-clause-exact : goal.returns-in_err-face-clause-exact
returns-in_err-face-clause-exact c =
    let p = err_from_is_err_and c.from_residual-in_err-face.result c.from_residual-in_err-face.ensures.1 in
    let j = c.args.job.now in
    let font = c.args.font.now in
    let how = c.in_ok-fit.fit in
    let fault = c.in_err-face.field-0.0 in
    let passed = of_setting j how _ _ _ _ c.job.ensures.exact c.plain.ensures c.in_ok-test_job.ensures.exact in
    rw (p.1, p.2) (strike_stops j font fault (face_refused j font how fault c.in_ok-fit.ensures.exact passed
    c.in_err-face.ensures.exact))

pub returns-in_err-face-clause-defects : goal.returns-in_err-face-clause-defects
returns-in_err-face-clause-defects c =
    let p = err_from_is_err_and c.from_residual-in_err-face.result c.from_residual-in_err-face.ensures.1 in
    let fault = c.in_err-face.field-0.0 in
    rw (p.1, p.2) (if_some_more (call_font_fault fault) _ _ (λ f h. rw c.in_ok-fit.ensures.exact h)
    c.in_err-face.ensures.defects)

-- the tables of the font
opened : (c : In_ok-face) → lines_wanted c.args.job.now c.args.font.now ≡ Ok c.in_ok-face.face
opened c =
    let j = c.args.job.now in
    let how = c.in_ok-fit.fit in
    let passed = of_setting j how _ _ _ _ c.job.ensures.exact c.plain.ensures c.in_ok-test_job.ensures.exact in
    lines_opened j c.args.font.now how c.in_ok-face.face c.in_ok-fit.ensures.exact passed
    c.in_ok-face.ensures.exact

pub returns-in_err-size-clause-exact : goal.returns-in_err-size-clause-exact
returns-in_err-size-clause-exact c =
    let p = err_from_is_err_and c.from_residual-in_err-size.result c.from_residual-in_err-size.ensures.1 in
    let all = (goal.at.returns-in_err-size-clause-exact c).In_ok-face in
    rw (p.1, p.2) (height_stops c.args.job.now c.args.font.now c.in_ok-face.face c.in_err-size.field-0.0 (opened all)
    (rw c.metrics-metrics.ensures at c.in_err-size.ensures.exact))

pub underline_by-requires-clause-file : goal.underline_by-requires-clause-file
underline_by-requires-clause-file c =
    opened_small c.args.job.now c.in_ok-fit.fit c.args.font.now c.in_ok-face.face c.in_ok-face.ensures.exact

pub underline_by-requires-clause-size : goal.underline_by-requires-clause-size
underline_by-requires-clause-size c =
    let valid = rw (c.job.ensures.exact, c.plain.ensures) at c.in_ok-test_job.ensures.valid in
    valid.high

pub returns-clause-exact : goal.returns-clause-exact
returns-clause-exact c =
    let all = (goal.at.returns-clause-exact c).In_ok-face in
    let j = c.args.job.now in
    let face = c.in_ok-face.face in
    let read = c.in_ok-face.ensures.exact in
    let em : c.units_per_em-em.result ≡ units_per_em_of face.metrics = rw c.metrics-metrics.ensures at c.units_per_em-em.ensures.exact in
    let is = underline_is j c.args.font.now c.in_ok-fit.fit face j.size (units_per_em_of face.metrics) read in
    let underline = rw (c.reading.ensures, em, is) at c.underline_by.ensures in
    rw c.strike_of.ensures (strike_is j c.args.font.now face c.in_ok-size.size c.underline_by.result (opened all)
    (rw c.metrics-metrics.ensures at c.in_ok-size.ensures.exact) underline)
