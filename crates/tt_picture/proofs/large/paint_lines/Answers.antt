use Rattle.std.proofs.Common.{◌≡◌, ◌∙◌, ◌+◌, [], take, get_or, refl, sym}
use Rattle.std.proofs.lemmas.List.{take_all}
use Rattle.tt_core.specs.Bits.{stride}
use Rattle.tt_picture.specs.Lines.{HasSizeOf}
use Rattle.tt_picture.specs.Placed.{in_edges, lines_have, number_has, place_has}
use Rattle.tt_picture.proofs.Bands.{none_painted, painted_more}
use Rattle.tt_picture.proofs.Placed.{line_more}
use Rattle.tt_picture.proofs.large.paint_lines.Goals as goal

pub loop-line-init : goal.loop-line-init
loop-line-init c =
    let f = c.args.frame in
    none_painted (stride f.width) f.height f.width (lines_have (number_has in_edges c.args.glyphs.now) []) c.args.rows.now (λ k r. refl)

pub paint_line-requires-clause-rows : goal.paint_line-requires-clause-rows
paint_line-requires-clause-rows c =
    let l = c.line-item.result in
    let here : get_or c.args.lines.now c.loop-line.line-index l ≡ l = sym c.line-item.is in
    let size : HasSizeOf c.args.frame l = rw here at (c.requires.alike c.loop-line.line-index l c.loop-line-test.true) in
    rw (size.0, size.1) (c.loop-line.invariant.len ∙ c.requires.rows)

pub loop-line-preserved : goal.loop-line-preserved
loop-line-preserved c =
    let f = c.args.frame in
    let lines = c.args.lines.now in
    let i = c.loop-line.line-index in
    let l = c.line-item.result in
    let has = number_has in_edges c.args.glyphs.now in
    let here : get_or lines i l ≡ l = sym c.line-item.is in
    let size : HasSizeOf f l = rw here at (c.requires.alike i l c.loop-line-test.true) in
    let one = rw (size.0, size.1) at c.in_ok-paint_line.ensures in
    painted_more (stride f.width) f.height f.width (lines_have has (take i lines))
    (place_has has l.frame l.glyphs.now) (lines_have has (take (i + 1) lines))
    c.args.rows.now c.loop-line.rows c.paint_line.new.rows c.loop-line.invariant one
    (λ k r inside below. line_more has lines i l k r c.loop-line-test.true here)

pub returns : goal.returns
returns c =
    let all = take_all c.loop-line.line-index c.args.lines.now c.loop-line-test.false in
    rw all at c.loop-line.invariant
