use Rattle.tt_deltas_inference.proofs.Near.{shares_near}
use Rattle.tt_deltas_inference.proofs.laws.shares_are_near.Goals as goal

pub returns : goal.returns
returns c = shares_near
