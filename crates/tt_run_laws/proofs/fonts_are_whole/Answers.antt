use Rattle.tt_run_laws.proofs.Made.{written-whole, mapped-whole}
use Rattle.tt_run_laws.proofs.fonts_are_whole.Goals as goal

pub returns-clause-run : goal.returns-clause-run
returns-clause-run c = written-whole c.fonts_are_whole.ensures.picture

pub returns-clause-map : goal.returns-clause-map
returns-clause-map c = mapped-whole c.instances_are_whole.ensures c.found_advances_are_whole.ensures
