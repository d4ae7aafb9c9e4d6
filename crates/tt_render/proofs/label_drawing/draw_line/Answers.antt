use Rattle.tt_render_settings.specs.TextsOutcome.{without_line}
use Rattle.tt_render_settings.proofs.DefectLines.{told_of_text}
use Rattle.tt_render.proofs.LabelLines.{label_of_no_text, label_of_text}
use Rattle.tt_render.proofs.label_drawing.draw_line.Goals as goal

pub returns-in_default-clause-exact : goal.returns-in_default-clause-exact
returns-in_default-clause-exact c =
    rw c.texts_fault.ensures (label_of_no_text c.args.asked.now c.args.strike.now c.args.line.now c.requires.short
    c.in_default.ensures.cases.0)

pub returns-clause-exact : goal.returns-clause-exact
returns-clause-exact c =
    let drawn = label_of_text c.args.asked.now c.args.strike.now c.args.line.now c.in-Ok.text.now c.requires.short
    c.in-Ok.ensures.cases in
    rw drawn c.answer_label.ensures.exact

pub returns-clause-defects : goal.returns-clause-defects
returns-clause-defects c = λ sized.
    told_of_text _ (without_line c.answer_label.result) (rw c.in-Ok.ensures.cases.0 at (c.answer_label.ensures.defects sized))
