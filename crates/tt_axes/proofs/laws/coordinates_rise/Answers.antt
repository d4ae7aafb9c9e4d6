use Rattle.tt_axes.proofs.Rising.{coordinate-near, coordinate-rises, default-zero}
use Rattle.tt_axes.proofs.laws.coordinates_rise.Goals as goal

pub returns-clause-default : goal.returns-clause-default
returns-clause-default c = default-zero

pub returns-clause-near : goal.returns-clause-near
returns-clause-near c = coordinate-near

pub returns-clause-order : goal.returns-clause-order
returns-clause-order c = coordinate-rises
