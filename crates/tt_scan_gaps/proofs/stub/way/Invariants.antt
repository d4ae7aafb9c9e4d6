use Rattle.std.proofs.Common.{◌≡◌, reverse, drop, if◌then◌else◌}
use Rattle.tt_scan_gaps.specs.Walk.{others, way}
use Rattle.tt_scan_gaps.proofs.stub.way.Given as goal

abbrev pub invariant-loop-m : goal.invariant-loop-m
invariant-loop-m l =
    way l.y l.far (drop l.m (if l.forward then others l.steps l.k else reverse (others l.steps l.k)))
    ≡ way l.y 0 (if l.forward then others l.steps l.k else reverse (others l.steps l.k))
