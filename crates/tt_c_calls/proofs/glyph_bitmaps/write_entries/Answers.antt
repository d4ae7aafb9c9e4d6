use Rattle.tt_c_calls.specs.Bitmaps.{bitmap_told}
use Rattle.tt_c_calls.proofs.Entries.{next_told}
use Rattle.tt_c_calls.proofs.glyph_bitmaps.write_entries.Goals as goal

pub loop-i-preserved : goal.loop-i-preserved
loop-i-preserved c =
    let next = next_told bitmap_told c.args.entries.now c.args.told.now c.loop-i.i c.index-entries-i.result c.loop-i-test.true
    c.requires in
    rw (c.loop-i.invariant, c.bitmap_of.ensures) (rw (← c.index-entries-i.is) at next)
