use Rattle.std.proofs.Common.{rules}
use Rattle.tt_kern.proofs.kern_table.pair_count.Goals as goal

pub returns-then-told-fitting-clause-exact : goal.returns-then-told-fitting-clause-exact
returns-then-told-fitting-clause-exact c = search rules
