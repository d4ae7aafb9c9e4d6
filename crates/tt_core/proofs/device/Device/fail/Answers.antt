use Rattle.std.proofs.Common.{refl}
use Rattle.tt_core.proofs.device.Device.fail.Goals as goal

pub returns : goal.returns
returns g c = refl
