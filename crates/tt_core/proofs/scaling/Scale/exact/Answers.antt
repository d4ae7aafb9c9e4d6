use Rattle.std.proofs.Common.{arith}
use Rattle.tt_core.proofs.scaling.Scale.exact.Goals as goal

pub returns-clause-exact : goal.returns-clause-exact
returns-clause-exact c = grind (arith, c.from.ensures)
