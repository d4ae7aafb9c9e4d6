use Rattle.std.proofs.Common.{refl}
use Rattle.tt_core.proofs.device.Device.new.Goals as goal

pub returns-clause-failure : goal.returns-clause-failure
returns-clause-failure g c = refl
