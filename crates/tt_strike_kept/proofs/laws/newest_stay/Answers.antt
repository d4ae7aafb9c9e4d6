use Rattle.tt_strike_kept.proofs.Fitting.{fitting_is_part}
use Rattle.tt_strike_kept.proofs.laws.newest_stay.Goals as goal

pub returns : goal.returns
returns c = fitting_is_part
