use Rattle.std.proofs.Common.{arith}
use Rattle.std.proofs.lemmas.Grind.{common_steps}
use Rattle.tt_points_loops.proofs.deltas.byte_of.Goals as goal

pub returns-in-Strict : goal.returns-in-Strict
returns-in-Strict c = rw c.in-Strict.is (grind (arith, common_steps))
