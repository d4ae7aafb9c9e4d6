use Rattle.std.proofs.Common.{rules}
use Rattle.tt_kern.proofs.kern_table.after_subtable.Goals as goal

pub returns-then-overrides-clause-exact : goal.returns-then-overrides-clause-exact
returns-then-overrides-clause-exact c = search rules
