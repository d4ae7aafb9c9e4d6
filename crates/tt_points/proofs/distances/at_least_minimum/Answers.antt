use Rattle.std.proofs.Common.{arith}
use Rattle.std.proofs.lemmas.Int.{ints, to_z-of_z}
use Rattle.tt_points.proofs.distances.at_least_minimum.Goals as goal

pub returns-then-d-lt0-clause-exact : goal.returns-then-d-lt0-clause-exact
returns-then-d-lt0-clause-exact c = grind (arith, ints, to_z-of_z)
