use Rattle.tt_test_pixels.proofs.Ends.{whole}
use Rattle.tt_test_pixels.proofs.dropouts.ends_in.Goals as goal

pub returns : goal.returns
returns c = whole _ _ _ c.contours.invariant c.if-from-edges.false
