use Rattle.std.proofs.Common.{◌≡◌, false, take}
use Rattle.std.specs.List.{list_any}
use Rattle.tt_scan_gaps.specs.Crossings.{has_end_on_line}
use Rattle.tt_scan_dropouts.proofs.may_have.some_end_on_line.Given as goal

-- no edge so far has an end on a line
abbrev pub invariant-loop-edge : goal.invariant-loop-edge
invariant-loop-edge l = record { none : list_any has_end_on_line (take l.edge-index l.edges) ≡ false }
