use Rattle.tt_test_machine.proofs.Ranges.{whole}
use Rattle.tt_test_machine.proofs.machine.parts.contours_in.Goals as goal

pub returns : goal.returns
returns c = whole _ _ _ c.contours.invariant
