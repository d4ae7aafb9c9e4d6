use Rattle.tt_bitmap.proofs.BothInks.{both_held, box_moves}
use Rattle.tt_bitmap.proofs.laws.inks_unite.Goals as goal

pub returns-clause-both : goal.returns-clause-both
returns-clause-both c = both_held

pub returns-clause-moved : goal.returns-clause-moved
returns-clause-moved c = box_moves
