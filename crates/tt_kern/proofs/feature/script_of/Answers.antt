use Rattle.std.proofs.Common.{rules}
use Rattle.tt_kern.proofs.feature.script_of.Goals as goal

pub returns-in-Some-clause-exact : goal.returns-in-Some-clause-exact
returns-in-Some-clause-exact c = search rules
