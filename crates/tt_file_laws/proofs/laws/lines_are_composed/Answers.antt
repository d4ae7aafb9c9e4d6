use Rattle.tt_file_laws.proofs.Composing.{lines_are_composed, others_are_alike}
use Rattle.tt_file_laws.proofs.laws.lines_are_composed.Goals as goal

pub returns-clause-lines : goal.returns-clause-lines
returns-clause-lines c =
    lines_are_composed c.lines_are_bitmaps.ensures.pixels c.entries_are_drawn.ensures.rows c.entries_are_drawn.ensures.advances
    c.codes_rise.ensures.belong

pub returns-clause-alike : goal.returns-clause-alike
returns-clause-alike c = others_are_alike c.work_unfits.ensures.others c.entries_are_drawn.ensures.alike
