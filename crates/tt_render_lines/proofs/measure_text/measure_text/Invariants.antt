use Rattle.std.proofs.Common.{◌≡◌, ◌++◌, map}
use Rattle.tt_render_settings.specs.MeasureText.{face_text, font_text, picture_text, unit_lines}
use Rattle.tt_strike.specs.Measures.{measure_view}
use Rattle.tt_render_lines.proofs.measure_text.measure_text.Given as goal

-- the lines of the face, of the font, of the picture and of the units so far
abbrev pub invariant-loop-unit : goal.invariant-loop-unit
invariant-loop-unit l =
    l.lines.items ≡ ((face_text l.fn.reading l.file ++ font_text l.face.metrics) ++ picture_text (measure_view l.measure))
    ++ unit_lines (map (λ p. (p.0, p.1.now)) l.yielded)
