use Rattle.tt_bitmap.specs.Bitmaps.{is_black}
use Rattle.tt_glyphs.specs.Drawn.{column_of, edged_pixel, line_of}
use Rattle.tt_glyphs.proofs.BitmapRows.{same_rows}
use Rattle.tt_glyphs.proofs.written.rows_of.Goals as goal

pub returns-in-Some-clause-rows : goal.returns-in-Some-clause-rows
returns-in-Some-clause-rows c =
    let p = c.args.place in
    let g = c.in-Some.pixels in
    let shown = rw c.in-Some.is at c.requires.shown in
    same_rows p (λ k r. is_black g.bitmap (column_of p k) (line_of p r)) (edged_pixel c.args.edged p)
    (λ k r column row. shown (column_of p k) (line_of p r))
