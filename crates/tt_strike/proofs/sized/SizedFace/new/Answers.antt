use Rattle.std.proofs.Common.{refl}
use Rattle.tt_strike.proofs.sized.SizedFace.new.Goals as goal

pub invariant_of-result : goal.invariant_of-result
invariant_of-result c = (tt, rw (c.new.ensures, c.metrics.ensures, c.cmap.ensures.exact) refl)
