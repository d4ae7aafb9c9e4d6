use Rattle.tt_strike_laws.proofs.UnhintedSteps.{unhinted_steps_are_near}
use Rattle.tt_strike_laws.proofs.laws.unhinted_steps_are_near.Goals as goal

pub returns : goal.returns
returns c = unhinted_steps_are_near c.scales_keep_order.ensures.differences
