use Rattle.tt_rows.proofs.Growing.{fitting_greatest}
use Rattle.tt_rows.proofs.laws.fitting_is_the_greatest.Goals as goal

pub returns : goal.returns
returns c = fitting_greatest
