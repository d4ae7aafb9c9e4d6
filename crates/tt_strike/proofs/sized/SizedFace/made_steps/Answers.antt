use Rattle.std.proofs.lemmas.Result.{err_from_is_err_and}
use Rattle.tt_line.specs.Layout.{text_glyphs}
use Rattle.tt_strike.specs.Strikes.{job_by}
use Rattle.tt_strike.proofs.Stepped.{outlines_pass}
use Rattle.tt_strike.proofs.Telling.{made_sound, made_tells}
use Rattle.tt_strike.proofs.TextSteps.{steps_by_outlines, units_stop_steps}
use Rattle.tt_strike.proofs.sized.SizedFace.made_steps.Goals as goal

pub returns-in_err-fitted-clause-exact : goal.returns-in_err-fitted-clause-exact
returns-in_err-fitted-clause-exact c =
    let p = err_from_is_err_and c.from_residual.result c.from_residual.ensures.1 in
    rw (p.1, p.2) (units_stop_steps c.args.self.now.face (job_by c.args.self.now c.args.text.now 0) c.in_err-fitted.field-0.0 c.requires.bounded
    c.in_err-fitted.ensures.stops)

pub returns-in_err-fitted-clause-defects : goal.returns-in_err-fitted-clause-defects
returns-in_err-fitted-clause-defects c =
    let p = err_from_is_err_and c.from_residual.result c.from_residual.ensures.1 in
    let z = c.args.self.now in
    rw (p.1, p.2) (made_tells z.face (job_by z c.args.text.now 0) (text_glyphs z.face.cmap c.args.text.now) c.in_err-fitted.field-0.0
    c.in_err-fitted.ensures.defects)

pub returns-clause-exact : goal.returns-clause-exact
returns-clause-exact c =
    let z = c.args.self.now in
    let a = job_by z c.args.text.now 0 in
    let o = c.in_ok-fitted.ensures.fitted in
    steps_by_outlines z.face a o.0 o.1.outlines.0 c.in_ok-fitted.fitted.steps.items c.requires.bounded o.1.setting.exact
    (outlines_pass o.0 a (text_glyphs z.face.cmap c.args.text.now) o.1.outlines.0 o.1.points o.1.outlines.1) o.2

pub returns-clause-defects : goal.returns-clause-defects
returns-clause-defects c =
    let z = c.args.self.now in
    made_sound z.face (job_by z c.args.text.now 0) (text_glyphs z.face.cmap c.args.text.now) c.requires.bounded c.in_ok-fitted.ensures.defects
