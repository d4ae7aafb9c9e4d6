use Rattle.std.proofs.Common.{refl}
use Rattle.tt_glyf.proofs.component_flags.ComponentFlagsFlags.flags.Goals as goal

pub returns : goal.returns
returns c = λ exact. refl
