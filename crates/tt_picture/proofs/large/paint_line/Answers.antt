use Rattle.std.proofs.Common.{◌≡◌, ◌∙◌, ◌+◌, [], take, get_or, refl, sym}
use Rattle.std.proofs.lemmas.List.{take_all}
use Rattle.tt_core.specs.Bits.{stride}
use Rattle.tt_picture.specs.Placed.{glyph_has, in_edges, number_has, place_has}
use Rattle.tt_picture.proofs.Bands.{none_painted, painted_more}
use Rattle.tt_picture.proofs.Placed.{none_placed, number_more, place_parts}
use Rattle.tt_picture.proofs.large.paint_line.Goals as goal

pub loop-glyph-init : goal.loop-glyph-init
loop-glyph-init c =
    let f = c.args.frame in
    none_painted (stride f.width) f.height f.width (place_has (number_has in_edges []) f c.args.line.now) c.args.rows.now
    (λ k r. none_placed (number_has in_edges []) f c.args.line.now k r (λ n k j. refl))

pub paint_glyph-requires-clause-rows : goal.paint_glyph-requires-clause-rows
paint_glyph-requires-clause-rows c = c.loop-glyph.invariant.len ∙ c.requires.rows

pub loop-glyph-preserved : goal.loop-glyph-preserved
loop-glyph-preserved c =
    let f = c.args.frame in
    let gs = c.args.glyphs.now in
    let line = c.args.line.now in
    let i = c.loop-glyph.glyph-index in
    let g = c.glyph-item.result in
    let here : get_or gs i g ≡ g = sym c.glyph-item.is in
    painted_more (stride f.width) f.height f.width (place_has (number_has in_edges (take i gs)) f line)
    (place_has (glyph_has in_edges g) f line) (place_has (number_has in_edges (take (i + 1) gs)) f line)
    c.args.rows.now c.loop-glyph.rows c.paint_glyph.new.rows c.loop-glyph.invariant c.in_ok-paint_glyph.ensures
    (λ k r inside below. place_parts (number_has in_edges (take (i + 1) gs)) (number_has in_edges (take i gs)) (glyph_has in_edges g) f
    line k r (λ n k j. number_more in_edges gs i g n k j c.loop-glyph-test.true here))

pub returns : goal.returns
returns c =
    let all = take_all c.loop-glyph.glyph-index c.args.glyphs.now c.loop-glyph-test.false in
    rw all at c.loop-glyph.invariant
