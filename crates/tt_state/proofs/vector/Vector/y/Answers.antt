use Rattle.std.proofs.Common.{refl}
use Rattle.tt_state.proofs.vector.Vector.y.Goals as goal

pub returns-in-Y-clause-exact : goal.returns-in-Y-clause-exact
returns-in-Y-clause-exact c = rw c.in-Y.is refl
