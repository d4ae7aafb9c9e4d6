use Rattle.tt_strike_kept.proofs.Fitting.{fitting_fits, fitting_is_longest}
use Rattle.tt_strike_kept.proofs.laws.most_stay.Goals as goal

pub returns : goal.returns
returns c = λ room es. (fitting_fits room es, fitting_is_longest room es)
