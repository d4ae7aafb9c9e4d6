use Rattle.std.proofs.lemmas.Result.{err_from_is_err_and}
use Rattle.tt_strike.specs.Refusals.{as_font}
use Rattle.tt_c_instances.specs.Maps.{text_mapped}
use Rattle.tt_c_calls.proofs.Answered.{draw_refused, drawn_too}
use Rattle.tt_c_calls.proofs.LinesStopped.{fit_defect}
use Rattle.tt_c_instances.proofs.MapAsked.{advances_stand, by_opened, face_refuses, face_stands, fit_refuses, long_refused, text_refuses}
use Rattle.tt_c_instances.proofs.mapping.mapped.Goals as goal

pub returns-in_err-fit-clause-exact : goal.returns-in_err-fit-clause-exact
returns-in_err-fit-clause-exact c =
    let p = err_from_is_err_and c.from_residual.result c.from_residual.ensures.1 in
    let r = c.args.request.now in
    rw (p.1, p.2) (fit_refuses r.job.now r.text.now r.font.now c.in_err-fit.field-0.0 c.in_err-fit.ensures.exact)

pub returns-in_err-fit-clause-defects : goal.returns-in_err-fit-clause-defects
returns-in_err-fit-clause-defects c =
    let p = err_from_is_err_and c.from_residual.result c.from_residual.ensures.1 in
    rw (p.1, p.2) (fit_defect c.args.request.now.job.now _ c.in_err-fit.field-0.0 c.in_err-fit.ensures.exact)

pub returns-in_err-text-clause-exact : goal.returns-in_err-text-clause-exact
returns-in_err-text-clause-exact c =
    let p = err_from_is_err_and c.from_residual-in_err-text.result c.from_residual-in_err-text.ensures.1 in
    let r = c.args.request.now in
    rw (p.1, p.2) (text_refuses r.job.now r.text.now r.font.now c.in_ok-fit.fit c.in_err-text.field-0.0 c.in_ok-fit.ensures.exact
    c.in_err-text.ensures.exact)

pub returns-in_err-text-clause-defects : goal.returns-in_err-text-clause-defects
returns-in_err-text-clause-defects c =
    let p = err_from_is_err_and c.from_residual-in_err-text.result c.from_residual-in_err-text.ensures.1 in
    rw (p.1, p.2, c.in_err-text.ensures.refused) tt

pub returns-in_err-test_text-clause-exact : goal.returns-in_err-test_text-clause-exact
returns-in_err-test_text-clause-exact c =
    let p = err_from_is_err_and c.from_residual-in_err-test_text.result c.from_residual-in_err-test_text.ensures.1 in
    let r = c.args.request.now in
    rw (p.1, p.2) (long_refused r.job.now r.text.now r.font.now c.in_ok-text.text.now c.in_ok-fit.fit c.in_err-test_text.field-0.0
    c.in_ok-fit.ensures.exact c.in_ok-text.ensures.exact c.in_err-test_text.ensures.exact)

pub returns-in_err-face-clause-exact : goal.returns-in_err-face-clause-exact
returns-in_err-face-clause-exact c =
    let p = err_from_is_err_and c.from_residual-in_err-face.result c.from_residual-in_err-face.ensures.1 in
    let r = c.args.request.now in
    rw (p.1, p.2) (face_refuses r.job.now r.text.now r.font.now c.in_ok-text.text.now c.in_ok-fit.fit c.in_err-face.field-0.0
    c.in_ok-fit.ensures.exact c.in_ok-text.ensures.exact c.in_ok-test_text.ensures.exact c.in_err-face.ensures.exact)

pub returns-in_err-face-clause-defects : goal.returns-in_err-face-clause-defects
returns-in_err-face-clause-defects c =
    let p = err_from_is_err_and c.from_residual-in_err-face.result c.from_residual-in_err-face.ensures.1 in
    let r = c.args.request.now in
    rw (p.1, p.2) (face_stands r.job.now r.text.now r.font.now c.in_ok-fit.fit c.in_err-face.field-0.0 c.in_ok-fit.ensures.exact
    c.in_err-face.ensures.defects)

pub returns-in_err-text_mapped-clause-exact : goal.returns-in_err-text_mapped-clause-exact
returns-in_err-text_mapped-clause-exact c =
    let p = err_from_is_err_and c.from_residual-in_err-text_mapped.result c.from_residual-in_err-text_mapped.ensures.1 in
    let r = c.args.request.now in
    let t = c.in_ok-text.text.now in
    let face = c.in_ok-face.face in
    let is = by_opened r.job.now r.text.now r.font.now t c.in_ok-fit.fit face c.in_ok-fit.ensures.exact c.in_ok-text.ensures.exact
    c.in_ok-test_text.ensures.exact c.in_ok-face.ensures.exact in
    rw (p.1, p.2, is) (draw_refused (as_font (text_mapped t face)) c.in_err-text_mapped.field-0.0 c.in_err-text_mapped.ensures.exact)

pub returns-in_err-text_mapped-clause-defects : goal.returns-in_err-text_mapped-clause-defects
returns-in_err-text_mapped-clause-defects c =
    let p = err_from_is_err_and c.from_residual-in_err-text_mapped.result c.from_residual-in_err-text_mapped.ensures.1 in
    let r = c.args.request.now in
    rw (p.1, p.2) (advances_stand r.job.now r.text.now r.font.now c.in_ok-text.text.now c.in_ok-fit.fit c.in_ok-face.face
    c.in_err-text_mapped.field-0.0 c.in_ok-fit.ensures.exact c.in_ok-text.ensures.exact c.in_ok-face.ensures.exact
    c.in_err-text_mapped.ensures.defects)

pub returns-clause-exact : goal.returns-clause-exact
returns-clause-exact c =
    let r = c.args.request.now in
    let t = c.in_ok-text.text.now in
    let face = c.in_ok-face.face in
    let is = by_opened r.job.now r.text.now r.font.now t c.in_ok-fit.fit face c.in_ok-fit.ensures.exact c.in_ok-text.ensures.exact
    c.in_ok-test_text.ensures.exact c.in_ok-face.ensures.exact in
    rw is (drawn_too (as_font (text_mapped t face)) _ c.in_ok-text_mapped.ensures.exact)
