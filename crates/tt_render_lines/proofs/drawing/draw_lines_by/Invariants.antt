use Rattle.std.proofs.Common.{◌≡◌, ◌*◌, ◌≤◌, false}
use Rattle.tt_render_texts.specs.LineReading.{text_left}
use Rattle.tt_render_settings.specs.TextsOutcome.{PassesAsAsked, lines_drawing}
use Rattle.tt_render_texts.specs.Printing.{errors_of}
use Rattle.tt_render_settings.proofs.DrawnLines.{SoFar}
use Rattle.tt_render_lines.proofs.drawing.draw_lines_by.Given as goal

-- the earlier lines were written with their reports, or were passed over, and the remaining text has the others
abbrev pub invariant-loop-before : goal.invariant-loop-before
invariant-loop-before g l = record {
  strike : l.strike ≡ record l.fn.strike { kept = l.strike.kept };
  reads : g.R.Source.has_failed l.lines ≡ false;
  few : l.used ≤ 18446744073709551615 * l.before;
  writes : g.W.Sink.has_failed l.out ≡ false;
  passes : PassesAsAsked (lines_drawing l.setting l.fn.strike) l.first;
  so_far : SoFar (lines_drawing l.setting l.fn.strike) (g.R.Source.left l.fn.lines)
      (text_left l.reader (g.R.Source.left l.lines)) (g.W.Sink.written l.fn.out) (g.W.Sink.written l.out)
      (errors_of g.E.Sink.written g.E.Sink.has_failed l.fn.error l.error) l.before l.used l.first;
}
