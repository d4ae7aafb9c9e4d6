use Rattle.tt_c_calls.proofs.line_drawing.draw_lines.Given as goal

-- the file of a strike's face
abbrev pub ghost-draw_by : goal.ghost-draw_by
ghost-draw_by a = a.strike.now.face.directory.file
