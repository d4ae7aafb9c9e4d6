use Rattle.std.proofs.Common.{◌&&◌, nat_lt, take}
use Rattle.tt_core.specs.Bits.{stride}
use Rattle.tt_bitmap.specs.Bands.{IsBandBlackened}
use Rattle.tt_picture.specs.Placed.{in_edges, number_has, place_has}
use Rattle.tt_picture.proofs.large.paint_line.Given as goal

-- the glyphs so far are painted
abbrev pub invariant-loop-glyph : goal.invariant-loop-glyph
invariant-loop-glyph l = IsBandBlackened (stride l.frame.width) l.frame.height
    (λ r c. nat_lt c l.frame.width && place_has (number_has in_edges (take l.glyph-index l.glyphs)) l.frame l.line c r)
    l.fn.rows l.rows
