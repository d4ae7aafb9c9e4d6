use Rattle.std.proofs.lemmas.Result.{err_from_is_err_and}
use Rattle.tt_render_lines.specs.declared.text_answers.ReadyText.{ReadyText}
use Rattle.tt_render_settings.proofs.OneText.{output_serves, output_stops, output_tells}
use Rattle.tt_render_lines.proofs.text_answers.answer_text.Goals as goal

pub returns-in_err-output-clause-exact : goal.returns-in_err-output-clause-exact
returns-in_err-output-clause-exact c =
    let p = err_from_is_err_and c.from_residual.result c.from_residual.ensures.1 in
    rw (p.1, p.2) (output_stops c.args.setting.now c.args.strike.now c.args.text.now c.in_err-output.field-0.0
    c.in_err-output.ensures.exact)

pub returns-in_err-output-clause-serves : goal.returns-in_err-output-clause-serves
returns-in_err-output-clause-serves c =
    let p = err_from_is_err_and c.from_residual.result c.from_residual.ensures.1 in
    rw (p.1, p.2) (output_serves ReadyText c.in_err-output.field-0.0)

pub returns-in_err-output-clause-defects : goal.returns-in_err-output-clause-defects
returns-in_err-output-clause-defects c =
    let p = err_from_is_err_and c.from_residual.result c.from_residual.ensures.1 in
    rw (p.1, p.2) (output_tells _ c.in_err-output.field-0.0 c.in_err-output.ensures.defects)
