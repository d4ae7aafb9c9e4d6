use Rattle.std.proofs.Common.{◌≡◌, false, take}
use Rattle.std.specs.List.{list_any}
use Rattle.tt_scan_gaps.specs.Walk.{is_in_free_gap}
use Rattle.tt_scan_dropouts.specs.Seen.{is_black_to}
use Rattle.tt_scan_dropouts.proofs.marks.some_in_free_gap.Given as goal

-- none of the edges so far crosses a free gap
abbrev pub invariant-loop-edge : goal.invariant-loop-edge
invariant-loop-edge l = list_any (is_in_free_gap false (is_black_to l.pass)) (take l.edge-index l.edges) ≡ false
