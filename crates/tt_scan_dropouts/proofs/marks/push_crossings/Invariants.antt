use Rattle.std.proofs.Common.{◌≡◌, true, ◌++◌, map}
use Rattle.std.specs.List.{range_with_len}
use Rattle.tt_scan_gaps.specs.Crossings.{crossing, line_crossed}
use Rattle.tt_scan_gaps.specs.Gaps.{free_marks}
use Rattle.tt_scan_gaps.specs.Walk.{mark_of}
use Rattle.tt_scan_dropouts.specs.Windows.{is_black_by}
use Rattle.tt_scan_dropouts.proofs.marks.push_crossings.Given as goal

abbrev pub invariant-loop-k : goal.invariant-loop-k
invariant-loop-k l =
    l.marks.items ≡ l.initial.marks.items ++ free_marks (is_black_by l.pass.over l.pass.ink.now)
    (map (mark_of true) (map (λ k. crossing l.edge (line_crossed l.edge k)) (range_with_len 0 l.k)))
