use Rattle.tt_glyphs.proofs.EntriesDrawn.{advances_are_drawn, advances_are_rounded, rows_are_drawn, unbounded_are_alike}
use Rattle.tt_glyphs.proofs.laws.entries_are_drawn.Goals as goal

pub returns-clause-rows : goal.returns-clause-rows
returns-clause-rows c = rows_are_drawn

pub returns-clause-advances : goal.returns-clause-advances
returns-clause-advances c = advances_are_drawn

pub returns-clause-rounded : goal.returns-clause-rounded
returns-clause-rounded c = advances_are_rounded

pub returns-clause-alike : goal.returns-clause-alike
returns-clause-alike c = unbounded_are_alike c.work_unfits.ensures.stays
