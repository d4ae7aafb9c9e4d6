use Rattle.std.proofs.Common.{◌≡◌, ℤ, ◌||◌, take}
use Rattle.tt_scan_dropouts.specs.Passes.{has_pixel}
use Rattle.tt_scan_dropouts.specs.Windows.{is_black_in}
use Rattle.tt_scan_dropouts.proofs.bitmap.Bitmap.blacken_all.Given as goal

-- the pixels so far are black
abbrev pub invariant-loop-pixel : goal.invariant-loop-pixel
invariant-loop-pixel l = record {
  window : l.self.window ≡ l.fn.self.window;
  black : (c j : ℤ) → is_black_in l.self c j ≡ (is_black_in l.fn.self c j || has_pixel (take l.pixel-index l.pixels) c j);
}
