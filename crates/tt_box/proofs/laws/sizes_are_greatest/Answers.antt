use Rattle.tt_box.proofs.Greatest.{greatest, none_fits}
use Rattle.tt_box.proofs.laws.sizes_are_greatest.Goals as goal

pub returns-clause-greatest : goal.returns-clause-greatest
returns-clause-greatest c = greatest

pub returns-clause-none : goal.returns-clause-none
returns-clause-none c = none_fits
