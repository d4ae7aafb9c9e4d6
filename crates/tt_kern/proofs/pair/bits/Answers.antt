use Rattle.std.proofs.Common.{rules}
use Rattle.tt_kern.proofs.pair.bits.Goals as goal

pub returns-clause-exact : goal.returns-clause-exact
returns-clause-exact c = search rules
