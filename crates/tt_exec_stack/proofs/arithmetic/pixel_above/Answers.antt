use Rattle.std.proofs.Common.{arith}
use Rattle.std.proofs.lemmas.Grind.{common_steps}
use Rattle.tt_exec_stack.proofs.arithmetic.pixel_above.Goals as goal

pub returns : goal.returns
returns c = grind (arith, common_steps)
