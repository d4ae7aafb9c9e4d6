use Rattle.std.proofs.Common.{◌∙◌, sym}
use Rattle.tt_bitmap_font.proofs.Listing.{listed_here, listed_not_here, listed_nowhere}
use Rattle.tt_bitmap_font.proofs.made.is_listed.Goals as goal

pub loop-one-preserved : goal.loop-one-preserved
loop-one-preserved c =
    let other = rw c.has_number.ensures at c.if-has_number.false in
    listed_not_here c.args.glyph c.args.listed.now c.loop-one.one-index c.one-item.result c.loop-one-test.true c.one-item.is other
    ∙ c.loop-one.invariant

pub returns-then-has_number : goal.returns-then-has_number
returns-then-has_number c =
    let same = rw c.has_number.ensures at c.if-has_number.true in
    sym (listed_here c.args.glyph c.args.listed.now c.loop-one.one-index c.one-item.result c.loop-one-test.true c.one-item.is same)
    ∙ c.loop-one.invariant

pub returns : goal.returns
returns c =
    sym (listed_nowhere c.args.glyph c.args.listed.now c.loop-one.one-index c.loop-one-test.false) ∙ c.loop-one.invariant
