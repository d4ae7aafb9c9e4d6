use Rattle.std.proofs.Common.{refl}
use Rattle.tt_core.proofs.fault.Fault.new.Goals as goal

pub returns : goal.returns
returns c = refl
