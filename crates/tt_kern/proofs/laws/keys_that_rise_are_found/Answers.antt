use Rattle.tt_kern.proofs.SearchFinds.{found-where-keys-rise}
use Rattle.tt_kern.proofs.laws.keys_that_rise_are_found.Goals as goal

pub returns : goal.returns
returns c = found-where-keys-rise
