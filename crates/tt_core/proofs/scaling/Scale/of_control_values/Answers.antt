use Rattle.std.proofs.Common.{refl}
use Rattle.tt_core.proofs.scaling.Scale.of_control_values.Goals as goal

pub returns-clause-exact : goal.returns-clause-exact
returns-clause-exact c = rw c.rounded-scale.ensures.exact refl
