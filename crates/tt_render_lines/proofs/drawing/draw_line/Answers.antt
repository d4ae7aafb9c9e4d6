use Rattle.tt_render_settings.specs.TextsOutcome.{without_line}
use Rattle.tt_render_settings.proofs.DefectLines.{told_of_text}
use Rattle.tt_render_settings.proofs.DrawnLines.{line_of_no_text, line_of_text}
use Rattle.tt_render_lines.proofs.drawing.draw_line.Goals as goal

pub returns-in_default-clause-exact : goal.returns-in_default-clause-exact
returns-in_default-clause-exact c =
    rw c.texts_fault.ensures (line_of_no_text c.args.setting.now c.args.strike.now c.args.line.now
    c.requires.short c.in_default.ensures.cases.0)

pub returns-clause-exact : goal.returns-clause-exact
returns-clause-exact c =
    let drawn = line_of_text c.args.setting.now c.args.strike.now c.args.line.now c.in-Ok.text.now
    c.requires.short c.in-Ok.ensures.cases in
    rw drawn c.answer_text.ensures.exact

pub returns-clause-defects : goal.returns-clause-defects
returns-clause-defects c =
    told_of_text _ (without_line c.answer_text.result) (rw c.in-Ok.ensures.cases.0 at c.answer_text.ensures.defects)
