use Rattle.tt_test_machine.proofs.Ranges.{Begins}
use Rattle.tt_test_machine.proofs.machine.parts.contours_in.Given as goal

abbrev pub invariant-contours : goal.invariant-contours
invariant-contours l = Begins l.contours.items l.from l.fn.points
