use Rattle.std.proofs.Common.{rules}
use Rattle.tt_kern.proofs.coverage.ranged_index.Goals as goal

pub returns-in-Some-clause-exact : goal.returns-in-Some-clause-exact
returns-in-Some-clause-exact c = search rules
