use Rattle.std.proofs.Common.{◌∙◌, ap, length, sym}
use Rattle.std.proofs.lemmas.Result.{err_from_is_err_and}
use Rattle.tt_strike.specs.Measures.{measure_view}
use Rattle.tt_c_calls.proofs.CharactersCounted.{measured_is_text, wanted_counted}
use Rattle.tt_c_calls.proofs.Counted.{text_same}
use Rattle.tt_c_calls.proofs.measuring.placed.Goals as goal

pub returns-in_err-measure-clause-exact : goal.returns-in_err-measure-clause-exact
returns-in_err-measure-clause-exact c =
    let p = err_from_is_err_and c.from_residual.result c.from_residual.ensures.1 in
    rw (p.1, p.2) c.in_err-measure.ensures.exact

pub returns-in_err-measure-clause-defects : goal.returns-in_err-measure-clause-defects
returns-in_err-measure-clause-defects c =
    let p = err_from_is_err_and c.from_residual.result c.from_residual.ensures.1 in
    rw (p.1, p.2) c.in_err-measure.ensures.defects

pub returns-in_err-text-clause-exact : goal.returns-in_err-text-clause-exact
returns-in_err-text-clause-exact c =
    absurd (measured_is_text c.args.request.now.job.now c.args.request.now.text.now c.args.request.now.font.now _
    c.in_ok-measure.ensures.exact (rw c.in_err-text.ensures.refused at c.in_err-text.ensures.exact))

pub returns-in_err-text-clause-defects : goal.returns-in_err-text-clause-defects
returns-in_err-text-clause-defects c =
    absurd (measured_is_text c.args.request.now.job.now c.args.request.now.text.now c.args.request.now.font.now _
    c.in_ok-measure.ensures.exact (rw c.in_err-text.ensures.refused at c.in_err-text.ensures.exact))

pub returns-in-Ok-clause-offsets : goal.returns-in-Ok-clause-offsets
returns-in-Ok-clause-offsets c =
    let same = text_same c.args.request.now.text.now _ c.in_ok-text.ensures.exact in
    rw (c.reads_widely.ensures, same) at c.in-Ok.ensures

pub returns-in-Ok-clause-count : goal.returns-in-Ok-clause-count
returns-in-Ok-clause-count c =
    let same = text_same c.args.request.now.text.now _ c.in_ok-text.ensures.exact in
    let offsets = rw (c.reads_widely.ensures, same) at c.in-Ok.ensures in
    wanted_counted c.glyphs_are_placed.ensures c.steps_lead.ensures c.args.request.now.job.now c.args.request.now.text.now
    c.args.request.now.font.now (measure_view c.in_ok-measure.measure) c.in_ok-measure.ensures.exact
    ∙ ap length (sym offsets)
