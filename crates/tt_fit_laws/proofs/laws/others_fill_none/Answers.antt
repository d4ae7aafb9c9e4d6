use Rattle.tt_fit_laws.proofs.Filling.{others-fill-none, rules-stay}
use Rattle.tt_fit_laws.proofs.laws.others_fill_none.Goals as goal

pub returns-clause-none : goal.returns-clause-none
returns-clause-none c = others-fill-none

pub returns-clause-stay : goal.returns-clause-stay
returns-clause-stay c = rules-stay
