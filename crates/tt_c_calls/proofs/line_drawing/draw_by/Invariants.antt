use Rattle.std.proofs.Common.{◌≡◌}
use Rattle.tt_c_calls.proofs.LinesDrawn.{IsDrawnTo}
use Rattle.tt_c_calls.proofs.line_drawing.draw_by.Given as goal

abbrev pub ghost-draw_line : goal.ghost-draw_line
ghost-draw_line g a = g.font

-- the lines so far were drawn, and no more
abbrev pub invariant-loop-i : goal.invariant-loop-i
invariant-loop-i g l = record {
  strike : l.strike ≡ record l.fn.strike { kept = l.strike.kept };
  drawn : IsDrawnTo l.job g.font l.texts l.ends l.fn.rows l.rows l.fn.lines l.lines l.from l.used l.i l.taken;
}
