use Rattle.std.proofs.Common.{rules}
use Rattle.tt_kern.proofs.kern_table.is_usable.Goals as goal

pub returns-then-coverage-eq0-clause-exact : goal.returns-then-coverage-eq0-clause-exact
returns-then-coverage-eq0-clause-exact c = search rules
