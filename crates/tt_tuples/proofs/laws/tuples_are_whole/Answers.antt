use Rattle.tt_tuples.proofs.Whole.{all-whole}
use Rattle.tt_tuples.proofs.laws.tuples_are_whole.Goals as goal

pub returns : goal.returns
returns c = all-whole c.shares_fall.ensures.tuples
