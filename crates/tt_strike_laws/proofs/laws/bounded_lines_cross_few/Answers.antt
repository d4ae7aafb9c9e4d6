use Rattle.tt_strike_laws.proofs.FewCrossings.{bounded_lines_cross_few}
use Rattle.tt_strike_laws.proofs.laws.bounded_lines_cross_few.Goals as goal

pub returns : goal.returns
returns c = bounded_lines_cross_few
