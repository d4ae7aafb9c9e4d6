use Rattle.tt_state.proofs.Units.{part_is}
use Rattle.tt_state.proofs.Parts.{parts_kept}
use Rattle.tt_state.proofs.laws.parts_are_greatest.Goals as goal

pub returns-clause-parts : goal.returns-clause-parts
returns-clause-parts c = part_is

pub returns-clause-kept : goal.returns-clause-kept
returns-clause-kept c = parts_kept
