use Rattle.std.proofs.Common.{◌≡◌, ℤ, true, length, ◌*◌, ◌&&◌}
use Rattle.tt_bitmap.specs.Bitmaps as bitmaps
use Rattle.tt_core.specs.Bits.{bit, stride}
use Rattle.tt_scan_dropouts.specs.Windows.{has, place}
use Rattle.tt_scan_dropouts.proofs.Inked.{is_begun}
use Rattle.tt_scan_dropouts.proofs.bitmap.Bitmap.painted.Given as goal

-- the rows so far are painted, and the others white
abbrev pub invariant-loop-s : goal.invariant-loop-s
invariant-loop-s l = record {
  black : (c j : ℤ) → has l.window c j ≡ true → bit l.bits.items (place l.window c j)
      ≡ (is_begun l.window l.s j && bitmaps.is_black l.inked c j);
  len : length l.bits.items ≡ stride l.window.width * l.window.height;
}
