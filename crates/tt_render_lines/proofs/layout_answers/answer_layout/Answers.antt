use Rattle.std.proofs.lemmas.Result.{err_from_is_err_and}
use Rattle.tt_render_lines.specs.declared.layout_answers.ReadyLayout.{ReadyLayout}
use Rattle.tt_render_settings.specs.Settings.{strike_in}
use Rattle.tt_render_settings.proofs.OneText.{output_serves, output_tells}
use Rattle.tt_render_lines.proofs.LayoutCalls.{lines_stop, stops_at_pens}
use Rattle.tt_strike.specs.Strikes.{job_of}
use Rattle.tt_render_lines.proofs.layout_answers.answer_layout.Goals as goal

pub returns-in_err-placed-clause-exact : goal.returns-in_err-placed-clause-exact
returns-in_err-placed-clause-exact c =
    let a = c.args.setting.now in
    let s = strike_in a c.args.sized.now in
    let p = err_from_is_err_and c.from_residual.result c.from_residual.ensures.1 in
    let d = c.in_err-placed.field-0.0 in
    rw (p.1, p.2) (lines_stop a s c.args.text.now d
    (stops_at_pens a.opening.reading s.face (job_of s c.args.text.now a.margin) d c.in_err-placed.ensures.exact))

pub returns-in_err-placed-clause-serves : goal.returns-in_err-placed-clause-serves
returns-in_err-placed-clause-serves c =
    let p = err_from_is_err_and c.from_residual.result c.from_residual.ensures.1 in
    rw (p.1, p.2) (output_serves ReadyLayout c.in_err-placed.field-0.0)

pub returns-in_err-placed-clause-defects : goal.returns-in_err-placed-clause-defects
returns-in_err-placed-clause-defects c =
    let p = err_from_is_err_and c.from_residual.result c.from_residual.ensures.1 in
    rw (p.1, p.2) (output_tells _ c.in_err-placed.field-0.0 c.in_err-placed.ensures.defects)

pub returns-clause-defects : goal.returns-clause-defects
returns-clause-defects c = c.in_ok-placed.ensures.defects
