use Rattle.std.proofs.Common.{◌||◌, ap}
use Rattle.tt_scan_edges.specs.Winding.{is_black}
use Rattle.tt_scan_gaps.specs.Crossings.{centre}
use Rattle.tt_glyphs.specs.Drawn.{column_of, edged_pixel, line_of}
use Rattle.tt_glyphs.proofs.BitmapRows.{same_rows}
use Rattle.tt_glyphs.proofs.large.LargeRows.of.Goals as goal

pub returns-clause-rows : goal.returns-clause-rows
returns-clause-rows c =
    let p = c.args.place in
    let e = c.args.edged in
    rw (c.in_ok-tape.ensures, c.into_list.ensures) (same_rows p _ (edged_pixel e p) (λ k r column row.
    ap (λ d. is_black e.tape.edges (centre (column_of p k)) (centre (line_of p r)) || d) (c.in_ok-dropouts.ensures.exact k r column row)))
