use Rattle.std.proofs.Common.{◌∙◌, sym}
use Rattle.tt_bitmap_font.proofs.Listing.{large_here, large_not_here, large_nowhere}
use Rattle.tt_bitmap_font.proofs.bitmaps.has_large.Goals as goal

pub loop-entry-preserved : goal.loop-entry-preserved
loop-entry-preserved c =
    let other = rw c.is_too_large.ensures at c.if-is_too_large.false in
    large_not_here c.args.entries.now c.loop-entry.entry-index c.entry-item.result c.loop-entry-test.true c.entry-item.is other
    ∙ c.loop-entry.invariant

pub returns-then-is_too_large : goal.returns-then-is_too_large
returns-then-is_too_large c =
    let large = rw c.is_too_large.ensures at c.if-is_too_large.true in
    sym (large_here c.args.entries.now c.loop-entry.entry-index c.entry-item.result c.loop-entry-test.true c.entry-item.is large)
    ∙ c.loop-entry.invariant

pub returns : goal.returns
returns c =
    sym (large_nowhere c.args.entries.now c.loop-entry.entry-index c.loop-entry-test.false) ∙ c.loop-entry.invariant
