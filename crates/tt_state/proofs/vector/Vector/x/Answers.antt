use Rattle.std.proofs.Common.{refl}
use Rattle.tt_state.proofs.vector.Vector.x.Goals as goal

pub returns-in-X-clause-exact : goal.returns-in-X-clause-exact
returns-in-X-clause-exact c = rw c.in-X.is refl
