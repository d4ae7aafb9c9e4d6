use Rattle.std.proofs.Common.{arith}
use Rattle.std.proofs.lemmas.Grind.{common_steps}
use Rattle.tt_core.specs.Search.{first_from_next}
use Rattle.tt_cmap.proofs.subtable.Subtable.falling.Goals as goal

pub loop-i-preserved : goal.loop-i-preserved
loop-i-preserved c = grind (arith, common_steps, first_from_next)
