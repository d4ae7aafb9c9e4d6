use Rattle.std.proofs.Common.{rules}
use Rattle.tt_scan.proofs.paint.blacken.Goals as goal

pub returns-then-from-end : goal.returns-then-from-end
returns-then-from-end c = record { bits = search rules; len = search rules }

pub returns-else-from-end : goal.returns-else-from-end
returns-else-from-end c = record { bits = search rules; len = search rules }
