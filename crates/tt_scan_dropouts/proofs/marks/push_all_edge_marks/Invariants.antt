use Rattle.std.proofs.Common.{◌≡◌, ◌++◌, take}
use Rattle.std.specs.List.{flat_map}
use Rattle.tt_scan_gaps.specs.Gaps.{free_marks}
use Rattle.tt_scan_gaps.specs.Walk.{edge_marks}
use Rattle.tt_scan_dropouts.specs.Windows.{is_black_by}
use Rattle.tt_scan_dropouts.proofs.marks.push_all_edge_marks.Given as goal

abbrev pub invariant-loop-i : goal.invariant-loop-i
invariant-loop-i l =
    l.marks.items
    ≡ l.initial.marks.items ++ free_marks (is_black_by l.pass.over l.pass.ink.now) (flat_map edge_marks (take l.i l.edges))
