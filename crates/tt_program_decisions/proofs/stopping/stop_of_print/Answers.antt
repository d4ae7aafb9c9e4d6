use Rattle.std.proofs.Common.{arith}
use Rattle.tt_program_decisions.proofs.stopping.stop_of_print.Goals as goal

pub returns-in_default : goal.returns-in_default
returns-in_default c = grind (arith, c.in_default.not-BrokenPipe)
