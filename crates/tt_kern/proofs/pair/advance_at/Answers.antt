use Rattle.std.proofs.Common.{rules}
use Rattle.tt_kern.proofs.pair.advance_at.Goals as goal

pub returns-then-format-eq1-clause-exact : goal.returns-then-format-eq1-clause-exact
returns-then-format-eq1-clause-exact c = search rules
