use Rattle.std.proofs.Common.{refl}
use Rattle.tt_program_decisions.proofs.closable.OutDevice.new.Goals as goal

pub returns-clause-failure : goal.returns-clause-failure
returns-clause-failure g c = refl
