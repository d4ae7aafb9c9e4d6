use Rattle.std.proofs.Common.{◌&&◌, nat_lt, take}
use Rattle.tt_core.specs.Bits.{stride}
use Rattle.tt_bitmap.specs.Bands.{IsBandBlackened}
use Rattle.tt_picture.specs.Placed.{in_edges, lines_have, number_has}
use Rattle.tt_picture.proofs.large.paint_lines.Given as goal

-- the lines so far are painted
abbrev pub invariant-loop-line : goal.invariant-loop-line
invariant-loop-line l = IsBandBlackened (stride l.fn.frame.width) l.fn.frame.height
    (λ r c. nat_lt c l.fn.frame.width && lines_have (number_has in_edges l.glyphs) (take l.line-index l.lines) c r)
    l.fn.rows l.rows
