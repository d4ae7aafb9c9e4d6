use Rattle.std.proofs.Common.{◌*◌, ◌&&◌, nat_lt, min}
use Rattle.tt_bitmap.specs.Bands.{IsBandBlackened}
use Rattle.tt_bitmap.specs.Bitmaps.{shown_in}
use Rattle.tt_bitmap.proofs.strip.paint_words.Given as goal

-- the columns of the words so far are painted
abbrev pub invariant-loop-strip : goal.invariant-loop-strip
invariant-loop-strip l = IsBandBlackened l.row.bytes l.rows
    (λ i c. nat_lt c l.row.width && shown_in l.words l.row.columns l.row.at (min l.row.columns (56 * l.strip)) i c) l.fn.band l.band
