use Rattle.std.proofs.Common.{arith}
use Rattle.tt_fit.specs.Fallback.{is_program_fault}
use Rattle.tt_fit.proofs.fallback.is_program_fault.Goals as goal

pub returns-then-number-le50 : goal.returns-then-number-le50
unfolding is_program_fault
returns-then-number-le50 c = grind (arith, c.fault.view_is, c.number-number.ensures)
