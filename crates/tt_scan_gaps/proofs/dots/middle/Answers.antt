use Rattle.std.proofs.Common.{rules}
use Rattle.tt_scan_gaps.proofs.dots.middle.Goals as goal

pub returns : goal.returns
returns c = search rules
