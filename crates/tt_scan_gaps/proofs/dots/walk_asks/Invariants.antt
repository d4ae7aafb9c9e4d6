use Rattle.std.proofs.Common.{◌≡◌, ◌-◌, length}
use Rattle.std.specs.List.{flat_map, range_with_len}
use Rattle.tt_scan_gaps.specs.Gaps.{some_asks}
use Rattle.tt_scan_gaps.specs.Walk.{step_marks, walk_marks}
use Rattle.tt_scan_gaps.proofs.dots.walk_asks.Given as goal

-- whether one of the remaining steps needs a pixel decides
abbrev pub invariant-loop-k : goal.invariant-loop-k
invariant-loop-k l = record {
  rest : some_asks (flat_map (step_marks l.steps) (range_with_len l.k (length l.steps - l.k))) ≡ some_asks (walk_marks l.steps);
}
