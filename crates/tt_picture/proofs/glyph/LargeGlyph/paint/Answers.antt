use Rattle.std.proofs.Common.{◌∙◌, ◌||◌, ap, sym}
use Rattle.tt_core.specs.Bits.{stride}
use Rattle.tt_scan_dropouts.specs.Pictures.{is_among}
use Rattle.tt_picture.specs.Large.{is_black_from, large_shows_from}
use Rattle.tt_picture.proofs.Bands.{painted_more}
use Rattle.tt_picture.proofs.Pens.{shown_from}
use Rattle.tt_picture.proofs.glyph.LargeGlyph.paint.Goals as goal

pub add_dropouts-requires-clause-rows : goal.add_dropouts-requires-clause-rows
add_dropouts-requires-clause-rows c = c.in_ok-paint_edges.ensures.len ∙ c.requires.rows

pub returns : goal.returns
returns c =
    let f = c.args.frame in
    let g = c.args.self.now in
    let pens = c.args.pens.now in
    let ds = c.in_ok-dropouts.dropouts.items in
    let dropouts = rw c.deref.ensures.value at c.add_dropouts.ensures in
    painted_more (stride f.width) f.height f.width (is_black_from f g.edges pens) (is_among ds) (large_shows_from f g pens)
    c.args.rows.now c.paint_edges.new.rows c.add_dropouts.new.rows c.in_ok-paint_edges.ensures dropouts
    (λ k r inside below. shown_from f g pens k r
    ∙ ap (λ b. is_black_from f g.edges pens k r || b) (sym (c.in_ok-dropouts.ensures.exact k r inside below)))
