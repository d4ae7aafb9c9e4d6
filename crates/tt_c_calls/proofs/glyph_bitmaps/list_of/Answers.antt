use Rattle.std.proofs.lemmas.Result.{err_from_is_err_and}
use Rattle.tt_glyphs.specs.Requests.{bitmaps_outcome, job_for}
use Rattle.tt_c_calls.proofs.Answered.{draw_refused, drawn_too}
use Rattle.tt_c_calls.proofs.BitmapLists.{by_opened, count_tells, face_refuses, face_stands, fit_refuses, glyphs_stand, list_refused, of_plain, setting_stands, size_failed, size_passed, size_refuses}
use Rattle.tt_c_calls.proofs.LinesStopped.{fit_defect}
use Rattle.tt_c_calls.proofs.glyph_bitmaps.list_of.Goals as goal

pub returns-in_err-fit-clause-exact : goal.returns-in_err-fit-clause-exact
returns-in_err-fit-clause-exact c =
    let p = err_from_is_err_and c.from_residual.result c.from_residual.ensures.1 in
    rw (p.1, p.2) (fit_refuses c.args.job.now c.args.glyphs.now c.args.font.now c.in_err-fit.field-0.0 c.in_err-fit.ensures.exact)

pub returns-in_err-fit-clause-defects : goal.returns-in_err-fit-clause-defects
returns-in_err-fit-clause-defects c =
    let p = err_from_is_err_and c.from_residual.result c.from_residual.ensures.1 in
    rw (p.1, p.2) (fit_defect c.args.job.now _ c.in_err-fit.field-0.0 c.in_err-fit.ensures.exact)

pub returns-in_err-test_job-clause-exact : goal.returns-in_err-test_job-clause-exact
returns-in_err-test_job-clause-exact c =
    let p = err_from_is_err_and c.from_residual-in_err-test_job.result c.from_residual-in_err-test_job.ensures.1 in
    let j = c.args.job.now in
    let gs = c.args.glyphs.now in
    let how = c.in_ok-fit.fit in
    let fault = c.in_err-test_job.field-0.0 in
    let fails = of_plain j.size how _ _ _ _ c.job.ensures.exact c.plain.ensures c.in_err-test_job.ensures.exact in
    rw (p.1, p.2) (list_refused j gs c.args.font.now how fault c.in_ok-fit.ensures.exact
    (size_refuses gs j.size fault (size_failed j.size how fault fails)))

pub returns-in_err-test_count-clause-exact : goal.returns-in_err-test_count-clause-exact
returns-in_err-test_count-clause-exact c =
    let p = err_from_is_err_and c.from_residual-in_err-test_count.result c.from_residual-in_err-test_count.ensures.1 in
    let j = c.args.job.now in
    let gs = c.args.glyphs.now in
    let how = c.in_ok-fit.fit in
    let fault = c.in_err-test_count.field-0.0 in
    let passes = size_passed j.size how (of_plain j.size how _ _ _ _ c.job.ensures.exact c.plain.ensures c.in_ok-test_job.ensures.exact) in
    rw (p.1, p.2) (list_refused j gs c.args.font.now how fault c.in_ok-fit.ensures.exact
    (count_tells gs j.size _ passes c.in_err-test_count.ensures.exact))

pub returns-in_err-face-clause-exact : goal.returns-in_err-face-clause-exact
returns-in_err-face-clause-exact c =
    let p = err_from_is_err_and c.from_residual-in_err-face.result c.from_residual-in_err-face.ensures.1 in
    let j = c.args.job.now in
    let gs = c.args.glyphs.now in
    let how = c.in_ok-fit.fit in
    let passes = size_passed j.size how (of_plain j.size how _ _ _ _ c.job.ensures.exact c.plain.ensures c.in_ok-test_job.ensures.exact) in
    let limits = count_tells gs j.size _ passes c.in_ok-test_count.ensures.exact in
    rw (p.1, p.2) (face_refuses j gs c.args.font.now how c.in_err-face.field-0.0 c.in_ok-fit.ensures.exact limits
    c.in_err-face.ensures.exact)

pub returns-in_err-face-clause-defects : goal.returns-in_err-face-clause-defects
returns-in_err-face-clause-defects c =
    let p = err_from_is_err_and c.from_residual-in_err-face.result c.from_residual-in_err-face.ensures.1 in
    rw (p.1, p.2) (face_stands c.args.job.now c.args.font.now c.in_ok-fit.fit c.in_err-face.field-0.0 c.in_ok-fit.ensures.exact
    c.in_err-face.ensures.defects)

pub returns-in_err-make-clause-exact : goal.returns-in_err-make-clause-exact
returns-in_err-make-clause-exact c =
    let p = err_from_is_err_and c.from_residual-in_err-make.result c.from_residual-in_err-make.ensures.1 in
    let j = c.args.job.now in
    let gs = c.args.glyphs.now in
    let how = c.in_ok-fit.fit in
    let passes = size_passed j.size how (of_plain j.size how _ _ _ _ c.job.ensures.exact c.plain.ensures c.in_ok-test_job.ensures.exact) in
    let limits = count_tells gs j.size _ passes c.in_ok-test_count.ensures.exact in
    let face = c.in_ok-face.face in
    let is = by_opened j gs c.args.font.now how face c.in_ok-fit.ensures.exact limits
    c.in_ok-face.ensures.exact in
    rw (p.1, p.2, is) (draw_refused (bitmaps_outcome face (job_for gs j.size how)) c.in_err-make.field-0.0 c.in_err-make.ensures.exact)

pub returns-in_err-make-clause-defects : goal.returns-in_err-make-clause-defects
returns-in_err-make-clause-defects c =
    let p = err_from_is_err_and c.from_residual-in_err-make.result c.from_residual-in_err-make.ensures.1 in
    rw (p.1, p.2) (setting_stands c.args.job.now c.args.font.now c.in_ok-fit.fit c.in_ok-face.face c.in_err-make.field-0.0
    c.in_ok-fit.ensures.exact c.in_ok-face.ensures.exact c.in_err-make.ensures.defects)

pub returns-clause-exact : goal.returns-clause-exact
returns-clause-exact c =
    let j = c.args.job.now in
    let gs = c.args.glyphs.now in
    let how = c.in_ok-fit.fit in
    let passes = size_passed j.size how (of_plain j.size how _ _ _ _ c.job.ensures.exact c.plain.ensures c.in_ok-test_job.ensures.exact) in
    let limits = count_tells gs j.size _ passes c.in_ok-test_count.ensures.exact in
    let is = by_opened j gs c.args.font.now how c.in_ok-face.face c.in_ok-fit.ensures.exact limits
    c.in_ok-face.ensures.exact in
    rw is (drawn_too _ _ c.in_ok-make.ensures.exact)

pub returns-clause-stands : goal.returns-clause-stands
returns-clause-stands c =
    glyphs_stand c.args.job.now c.args.glyphs.now c.args.font.now c.in_ok-fit.fit c.in_ok-face.face _ c.in_ok-fit.ensures.exact
    c.in_ok-face.ensures.exact c.in_ok-make.ensures.told
