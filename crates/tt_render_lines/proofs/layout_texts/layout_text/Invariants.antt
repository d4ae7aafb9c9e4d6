use Rattle.std.proofs.Common.{◌≡◌, ◌++◌, drop, flat_map}
use Rattle.tt_render_lines.specs.LayoutTexts.{pen_text, size_text}
use Rattle.tt_render_settings.specs.MeasureText.{face_text, font_text}
use Rattle.tt_render_lines.proofs.layout_texts.layout_text.Given as goal

-- the lines so far, and then those of the remaining pens, are all lines
abbrev pub invariant-loop-pen : goal.invariant-loop-pen
invariant-loop-pen l =
    l.lines.items ++ flat_map pen_text (drop l.pen-index l.pens)
    ≡ ((face_text l.fn.reading l.file ++ font_text l.face.metrics) ++ size_text l.layout) ++ flat_map pen_text l.pens
