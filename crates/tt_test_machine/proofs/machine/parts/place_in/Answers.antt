use Rattle.std.proofs.Common.{arith}
use Rattle.std.proofs.lemmas.Int.{ints}
use Rattle.tt_test_machine.proofs.machine.parts.place_in.Goals as goal

pub returns : goal.returns
returns c = omega (arith, ints, c.number.ensures.low, c.number.ensures.high)
