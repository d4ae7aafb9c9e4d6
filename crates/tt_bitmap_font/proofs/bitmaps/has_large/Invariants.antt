use Rattle.std.proofs.Common.{◌≡◌, drop}
use Rattle.tt_bitmap_font.specs.Bitmaps.{has_large}
use Rattle.tt_bitmap_font.proofs.bitmaps.has_large.Given as goal

-- the remaining entries decide
abbrev pub invariant-loop-entry : goal.invariant-loop-entry
invariant-loop-entry l = has_large (drop l.entry-index l.entries) ≡ has_large l.entries
