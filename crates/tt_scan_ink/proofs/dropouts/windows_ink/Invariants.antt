use Rattle.std.proofs.Common.{◌≡◌, ◌-◌, ◌≤◌}
use Rattle.tt_scan.specs.Contours.{contours_at}
use Rattle.tt_scan_dropouts.specs.Dropouts.{is_dropout}
use Rattle.tt_scan_ink.specs.Ink.{count_of}
use Rattle.tt_bitmap.specs.Inks.{IsInk}
use Rattle.tt_scan_ink.specs.Least.{shown}
use Rattle.tt_scan_ink.proofs.dropouts.windows_ink.Given as goal

-- the box of the lines so far
abbrev pub invariant-loop-done : goal.invariant-loop-done
invariant-loop-done l = record {
  count : l.count ≡ count_of l.rows;
  within : l.done ≤ l.count;
  ink : IsInk (shown l.columns l.rows.first l.done (is_dropout l.glyph.rules (contours_at l.glyph.tape.now.edges l.glyph.ends.now))) l.ink;
}

abbrev pub decreases-loop-done : goal.decreases-loop-done
decreases-loop-done l = l.count - l.done
