use Rattle.std.proofs.Common.{refl}
use Rattle.tt_program_decisions.proofs.closable.OutDevice.fail.Goals as goal

pub returns : goal.returns
returns g c = refl
