use Rattle.std.proofs.Common.{◌≡◌, ◌*◌, ◌≤◌, false}
use Rattle.tt_render.specs.Labels.{labels_drawing}
use Rattle.tt_render_settings.specs.Lines.{places}
use Rattle.tt_render_settings.specs.TextsOutcome.{PassesAsAsked}
use Rattle.tt_render_texts.specs.LineReading.{text_left}
use Rattle.tt_render_texts.specs.Printing.{errors_of}
use Rattle.tt_render_settings.proofs.DrawnLines.{SoFar}
use Rattle.tt_render.proofs.label_drawing.draw_labels_by.Given as goal

-- the earlier lines are in their places with their reports, or were passed over, and the remaining text has the others
abbrev pub invariant-loop-before : goal.invariant-loop-before
invariant-loop-before g l = record {
  strike : l.strike ≡ record l.fn.strike { kept = l.strike.kept };
  reads : g.R.Source.has_failed l.lines ≡ false;
  few : l.used ≤ 18446744073709551615 * l.before;
  writes : g.P.Pictures.has_failed l.out ≡ false;
  passes : PassesAsAsked (labels_drawing (places g.P.Pictures.shown) l.asked l.fn.strike) l.first;
  so_far : SoFar (labels_drawing (places g.P.Pictures.shown) l.asked l.fn.strike) (g.R.Source.left l.fn.lines)
      (text_left l.reader (g.R.Source.left l.lines)) (g.P.Pictures.written l.fn.out) (g.P.Pictures.written l.out)
      (errors_of g.E.Sink.written g.E.Sink.has_failed l.fn.error l.error) l.before l.used l.first;
}
