use Rattle.std.proofs.Common.{take}
use Rattle.tt_scan_dropouts.specs.Passes.{has_pixel}
use Rattle.tt_bitmap.specs.Inks.{IsInk}
use Rattle.tt_scan_ink.proofs.dropouts.pixels_ink.Given as goal

-- the box of the pixels so far
abbrev pub invariant-loop-pixel : goal.invariant-loop-pixel
invariant-loop-pixel l = IsInk (has_pixel (take l.pixel-index l.pixels)) l.ink
