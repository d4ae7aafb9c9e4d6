use Rattle.std.proofs.Common.{◌+◌, ◌*◌, ◌&&◌, nat_lt, slice_index}
use Rattle.tt_bitmap.specs.Bands.{IsBandBlackened}
use Rattle.tt_bitmap.specs.Words.{stamped}
use Rattle.tt_bitmap.proofs.strip.paint_few.Given as goal

-- the rows so far are painted
abbrev pub invariant-loop-i : goal.invariant-loop-i
invariant-loop-i l =
    IsBandBlackened l.at.bytes l.at.rows (λ i c. nat_lt i l.i && stamped l.at.place (slice_index l.words (l.at.strips * i + l.at.strip)) c) l.fn.band l.band
