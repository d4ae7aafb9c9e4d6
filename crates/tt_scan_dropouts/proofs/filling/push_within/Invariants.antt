use Rattle.std.proofs.Common.{◌≡◌, take, ◌||◌, ◌&&◌}
use Rattle.std.specs.Prelude.{ℤ}
use Rattle.tt_scan_dropouts.specs.Passes.{has_pixel}
use Rattle.tt_scan_dropouts.specs.Windows.{has, has_pixel_by}
use Rattle.tt_scan_dropouts.proofs.filling.push_within.Given as goal

-- the pixels so far are added
abbrev pub invariant-loop-pixel : goal.invariant-loop-pixel
invariant-loop-pixel l = record {
  so_far : (c j : ℤ) → has_pixel l.found.items c j
      ≡ (has_pixel l.fn.found.items c j || (has l.window c j && has_pixel_by l.over (take l.pixel-index l.pixels) c j));
}
