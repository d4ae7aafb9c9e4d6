use Rattle.tt_scan_dropouts.proofs.bitmap.Bitmap.inked.Goals as goal

pub returns-clause-black : goal.returns-clause-black
returns-clause-black c = rw c.in_ok-tape.ensures.edges at c.cut.ensures.black
