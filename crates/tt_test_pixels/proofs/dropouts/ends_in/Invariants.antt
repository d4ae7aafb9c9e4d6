use Rattle.tt_test_pixels.proofs.Ends.{Begin}
use Rattle.tt_test_pixels.proofs.dropouts.ends_in.Given as goal

abbrev pub invariant-contours : goal.invariant-contours
invariant-contours l = Begin l.ends.items l.from l.fn.edges
