use Rattle.std.proofs.Common.{refl}
use Rattle.tt_program_decisions.proofs.stopping.status_of.Goals as goal

pub returns-in-Shown : goal.returns-in-Shown
returns-in-Shown c = rw c.in-Shown.is refl
