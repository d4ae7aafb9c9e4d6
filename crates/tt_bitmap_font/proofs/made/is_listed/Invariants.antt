use Rattle.std.proofs.Common.{◌≡◌, drop}
use Rattle.tt_bitmap_font.specs.Bitmaps.{is_listed}
use Rattle.tt_bitmap_font.proofs.made.is_listed.Given as goal

-- the remaining glyphs decide
abbrev pub invariant-loop-one : goal.invariant-loop-one
invariant-loop-one l = is_listed l.glyph (drop l.one-index l.listed) ≡ is_listed l.glyph l.listed
