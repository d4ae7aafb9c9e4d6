use Rattle.std.proofs.Common.{refl}
use Rattle.tt_scan.proofs.sweep.Sweep.new.Goals as goal

pub returns : goal.returns
returns c = rw (c.in_ok-new.ensures.white, c.in_ok-new.ensures.most) refl
