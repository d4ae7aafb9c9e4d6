use Rattle.std.proofs.Common.{◌≡◌, ◌-◌, ◌≤◌}
use Rattle.tt_scan_ink.specs.Ink.{count_of}
use Rattle.tt_bitmap.specs.Inks.{IsInk}
use Rattle.tt_scan_ink.specs.Least.{is_inked_by, shown}
use Rattle.tt_scan_ink.proofs.edges.bands_ink.Given as goal

-- the box of the lines so far
abbrev pub invariant-loop-done : goal.invariant-loop-done
invariant-loop-done l = record {
  edges : l.list.edges ≡ l.fn.list.edges;
  count : l.count ≡ count_of l.rows;
  within : l.done ≤ l.count;
  ink : IsInk (shown l.columns l.rows.first l.done (is_inked_by l.fn.list.edges)) l.ink;
}

abbrev pub decreases-loop-done : goal.decreases-loop-done
decreases-loop-done l = l.count - l.done
