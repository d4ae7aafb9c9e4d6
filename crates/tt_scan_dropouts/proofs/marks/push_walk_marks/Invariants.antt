use Rattle.std.proofs.Common.{◌≡◌, ◌++◌}
use Rattle.std.specs.List.{flat_map, range_with_len}
use Rattle.tt_scan_gaps.specs.Gaps.{free_marks}
use Rattle.tt_scan_gaps.specs.Walk.{step_marks}
use Rattle.tt_scan_dropouts.specs.Windows.{is_black_by}
use Rattle.tt_scan_dropouts.proofs.marks.push_walk_marks.Given as goal

abbrev pub invariant-loop-k : goal.invariant-loop-k
invariant-loop-k l =
    l.marks.items ≡ l.initial.marks.items
    ++ free_marks (is_black_by l.pass.over l.pass.ink.now) (flat_map (step_marks l.steps) (range_with_len 0 l.k))
