use Rattle.tt_fit_outline.proofs.Pixels.{steps-are-bounded, steps-are-forward, steps-are-near, steps-stay}
use Rattle.tt_fit_outline.proofs.laws.steps_are_near.Goals as goal

pub returns-clause-bounded : goal.returns-clause-bounded
returns-clause-bounded c = steps-are-bounded

pub returns-clause-near : goal.returns-clause-near
returns-clause-near c = steps-are-near

pub returns-clause-forward : goal.returns-clause-forward
returns-clause-forward c = steps-are-forward

pub returns-clause-stay : goal.returns-clause-stay
returns-clause-stay c = steps-stay
