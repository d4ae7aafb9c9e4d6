use Rattle.std.proofs.Common.{◌≡◌, ◌&&◌, ◌-◌, ◌≤◌}
use Rattle.std.specs.Prelude.{ℤ}
use Rattle.tt_scan.specs.Contours.{contours_at}
use Rattle.tt_scan_dropouts.specs.Dropouts.{is_dropout}
use Rattle.tt_scan_dropouts.specs.Passes.{has_pixel}
use Rattle.tt_scan_dropouts.specs.Windows.{has}
use Rattle.tt_scan_dropouts.proofs.filling.dropouts.Given as goal

-- the dropouts of the rows that are done
abbrev pub invariant-loop-done : goal.invariant-loop-done
invariant-loop-done l = record {
  within : l.done ≤ l.part.height;
  found : (c j : ℤ) → has_pixel l.found.items c j ≡ (has (record l.part { height = l.done }) c j
      && is_dropout l.glyph.rules (contours_at l.glyph.tape.now.edges l.glyph.ends.now) c j);
}

abbrev pub decreases-loop-done : goal.decreases-loop-done
decreases-loop-done l = l.part.height - l.done
