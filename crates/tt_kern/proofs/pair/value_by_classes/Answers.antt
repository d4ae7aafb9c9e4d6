use Rattle.std.proofs.Common.{rules}
use Rattle.tt_kern.proofs.pair.value_by_classes.Goals as goal

pub returns-then-second-count-clause-exact : goal.returns-then-second-count-clause-exact
returns-then-second-count-clause-exact c = search rules
