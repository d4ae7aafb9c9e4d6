use Rattle.std.proofs.Common.{◌≡◌, ℕ, take}
use Rattle.tt_scan_dropouts.specs.Passes.{has_pixel}
use Rattle.tt_scan_dropouts.specs.Pictures.{AreInColumns, is_among}
use Rattle.tt_glyphs.specs.Drawn.{column_of, line_of}
use Rattle.tt_glyphs.proofs.large.dropouts_among.Given as goal

-- the pixels so far are added
abbrev pub invariant-loop-pixel : goal.invariant-loop-pixel
invariant-loop-pixel l = record {
  added : (c r : ℕ) → is_among l.found.items c r ≡ has_pixel (take l.pixel-index l.pixels) (column_of l.place c) (line_of l.place r);
  within : AreInColumns l.place.width l.found.items;
}
