use Rattle.std.proofs.Common.{◌≡◌, take}
use Rattle.tt_scan_gaps.specs.Walk.{walk}
use Rattle.tt_scan_gaps.proofs.steps.walk.Given as goal

abbrev pub invariant-loop-i : goal.invariant-loop-i
invariant-loop-i l = l.steps.items ≡ walk (take l.i l.edges)
