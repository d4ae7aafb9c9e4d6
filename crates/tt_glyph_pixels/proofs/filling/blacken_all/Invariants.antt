use Rattle.std.proofs.Common.{◌≡◌, ℤ, ◌&&◌, ◌||◌, take}
use Rattle.tt_bitmap.specs.Bitmaps.{has, is_black}
use Rattle.tt_scan_dropouts.specs.Passes.{has_pixel}
use Rattle.tt_glyph_pixels.proofs.filling.blacken_all.Given as goal

-- the pixels so far are black
abbrev pub invariant-loop-pixel : goal.invariant-loop-pixel
invariant-loop-pixel l = record {
  black : (c j : ℤ) → is_black l.bitmap c j
      ≡ (is_black l.fn.bitmap c j || (has l.fn.bitmap c j && has_pixel (take l.pixel-index l.pixels) c j));
  place : l.bitmap ≡ record l.fn.bitmap { words = l.bitmap.words };
}
