use Rattle.tt_axes.proofs.Defaults.{all-zero, no-pair, zero-kept}
use Rattle.tt_axes.proofs.laws.defaults_are_zero.Goals as goal

pub returns-clause-instance : goal.returns-clause-instance
returns-clause-instance c = all-zero

pub returns-clause-pair : goal.returns-clause-pair
returns-clause-pair c = zero-kept

pub returns-clause-none : goal.returns-clause-none
returns-clause-none c = no-pair
