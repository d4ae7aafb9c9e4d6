use Rattle.std.proofs.Common.{sym}
use Rattle.tt_scan_gaps.proofs.SmallContours.{asks_at_cross}
use Rattle.tt_scan_gaps.proofs.dots.step_asks.Goals as goal

pub returns-in-Cross : goal.returns-in-Cross
returns-in-Cross c =
    rw c.is_of_stub.ensures (sym (asks_at_cross c.args.steps.now c.args.k c.in-Cross.at _ c.requires c.in-Cross.is))
