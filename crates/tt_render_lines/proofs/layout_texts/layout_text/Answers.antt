use Rattle.std.proofs.Common.{◌≡◌, ◌++◌, ◌∙◌, sym, flat_map, append_assoc, arith}
use Rattle.std.proofs.lemmas.List.{append-nil, at_drop_all, at_drop_more}
use Rattle.tt_render_lines.specs.LayoutTexts.{pen_text, size_text}
use Rattle.tt_render_settings.specs.MeasureText.{face_text, font_text}
use Rattle.tt_render_lines.proofs.LayoutCalls.{append_pens, no_pen}
use Rattle.tt_render_lines.proofs.layout_texts.layout_text.Goals as goal

pub loop-pen-preserved : goal.loop-pen-preserved
loop-pen-preserved c =
    let before = c.loop-pen.lines.items in
    let rest = at_drop_more (λ ps. before ++ flat_map pen_text ps) c.args.pens.now c.loop-pen.pen-index no_pen c.loop-pen-test.true in
    rw (c.in_ok-extend_from_slice-2.ensures.items, c.as_bytes-in-loop-pen.ensures.exact, c.make_pen_line.ensures)
    (append_assoc before _ _ ∙ sym rest ∙ c.loop-pen.invariant)

pub returns : goal.returns
returns c =
    let lines = c.loop-pen.lines.items in
    let first = (face_text c.args.reading c.args.file.now ++ font_text c.args.face.now.metrics) ++ size_text c.args.layout.now in
    let none = at_drop_all (flat_map pen_text) c.args.pens.now c.loop-pen.pen-index (omega arith) in
    let whole : lines ≡ first ++ flat_map pen_text c.args.pens.now = rw (← append-nil lines) (rw none at c.loop-pen.invariant) in
    whole ∙ append_pens c.args.reading c.args.file.now c.args.face.now c.args.layout.now c.args.pens.now
