use Rattle.tt_core.proofs.Scales.{keep_order, are_odd, keep_differences}
use Rattle.tt_core.proofs.laws.scales_keep_order.Goals as goal

pub returns-clause-order : goal.returns-clause-order
returns-clause-order c = keep_order

pub returns-clause-odd : goal.returns-clause-odd
returns-clause-odd c = are_odd

pub returns-clause-differences : goal.returns-clause-differences
returns-clause-differences c = keep_differences
