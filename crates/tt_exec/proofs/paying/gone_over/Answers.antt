use Rattle.std.proofs.Common.{rules}
use Rattle.tt_exec.proofs.paying.gone_over.Goals as goal

pub returns-in-48-clause-exact : goal.returns-in-48-clause-exact
returns-in-48-clause-exact c = search rules

pub returns-in-52-to-55-clause-exact : goal.returns-in-52-to-55-clause-exact
returns-in-52-to-55-clause-exact c = search rules

pub returns-in-57-clause-exact : goal.returns-in-57-clause-exact
returns-in-57-clause-exact c = search rules
