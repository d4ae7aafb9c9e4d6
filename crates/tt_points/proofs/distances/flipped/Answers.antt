use Rattle.std.proofs.Common.{arith}
use Rattle.std.proofs.lemmas.Int.{ints, to_z-of_z}
use Rattle.tt_points.proofs.distances.flipped.Goals as goal

pub returns-then-is_opposite : goal.returns-then-is_opposite
returns-then-is_opposite c = grind (arith, ints, to_z-of_z, c.is_opposite.ensures)
