use Rattle.tt_fit_outline.proofs.Pixels.{up-is-near, up-keeps-order, up-moves-by-pixels}
use Rattle.tt_fit_outline.proofs.laws.halves_go_up.Goals as goal

pub returns-clause-order : goal.returns-clause-order
returns-clause-order c = up-keeps-order

pub returns-clause-pixels : goal.returns-clause-pixels
returns-clause-pixels c = up-moves-by-pixels

pub returns-clause-near : goal.returns-clause-near
returns-clause-near c = up-is-near
