use Rattle.tt_bdf.specs.Bitmap.{row_at, row_text}
use Rattle.tt_bdf.proofs.Behind.{texts-more}
use Rattle.tt_bdf.proofs.bitmap.push_rows.Goals as goal

pub loop-i-preserved : goal.loop-i-preserved
loop-i-preserved c =
    rw (c.in_ok-push_row.ensures, c.loop-i.invariant)
    (texts-more (λ i. row_text (row_at c.args.bitmap.now c.args.stride i)) c.args.text.now.items c.loop-i.i)
