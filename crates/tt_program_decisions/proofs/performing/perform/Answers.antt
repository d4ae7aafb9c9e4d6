use Rattle.tt_program_decisions.proofs.performing.perform.Goals as goal

pub returns-in-Text-clause-outcome : goal.returns-in-Text-clause-outcome
returns-in-Text-clause-outcome g c =
    rw c.in-Text.is
    (record {
      answer = c.draw_text-drawn.result;
      between = g.E.Sink.written c.draw_text-drawn.new.error;
      had_failed = g.E.Sink.has_failed c.draw_text-drawn.new.error;
      outcome = (c.draw_text-drawn.ensures.outcome, c.draw_text-drawn.ensures.defects);
      told = rw c.is_closed-in-Text.ensures at c.tell_texts.ensures.told;
    })

pub returns-in-Lines-clause-outcome : goal.returns-in-Lines-clause-outcome
returns-in-Lines-clause-outcome g c =
    rw c.in-Lines.is
    (record {
      answer = c.draw_lines-drawn.result;
      between = g.E.Sink.written c.draw_lines-drawn.new.error;
      had_failed = g.E.Sink.has_failed c.draw_lines-drawn.new.error;
      outcome = (c.draw_lines-drawn.ensures.outcome, c.draw_lines-drawn.ensures.defects);
      told = rw c.is_closed-in-Lines.ensures at c.tell_lines.ensures.told;
    })

pub returns-in-Layout-clause-outcome : goal.returns-in-Layout-clause-outcome
returns-in-Layout-clause-outcome g c =
    rw c.in-Layout.is
    (record {
      answer = c.write_layout-told.result;
      between = g.E.Sink.written c.write_layout-told.new.error;
      had_failed = g.E.Sink.has_failed c.write_layout-told.new.error;
      outcome = (c.write_layout-told.ensures.outcome, c.write_layout-told.ensures.defects);
      told = rw c.is_closed-in-Layout.ensures at c.tell_texts-in-Layout.ensures.told;
    })

pub returns-in-Label-clause-outcome : goal.returns-in-Label-clause-outcome
returns-in-Label-clause-outcome g c =
    rw c.in-Label.is (
      c.label_for-label.result,
      rw (c.font.ensures, c.in-Label.is) at c.label_for-label.ensures,
      record {
        drawn = c.draw_label-drawn.result;
        between = g.E.Sink.written c.draw_label-drawn.new.error;
        had_failed = g.E.Sink.has_failed c.draw_label-drawn.new.error;
        outcome = (c.draw_label-drawn.ensures.outcome, c.draw_label-drawn.ensures.defects, c.draw_label-drawn.ensures.hint);
        told = rw c.is_closed-in-Label.ensures at c.tell_label.ensures.told;
      },
    )

pub returns-in-Labels-clause-outcome : goal.returns-in-Labels-clause-outcome
returns-in-Labels-clause-outcome g c =
    rw c.in-Labels.is (
      c.label_for-label-in-Labels.result,
      rw (c.font-in-Labels.ensures, c.in-Labels.is) at c.label_for-label-in-Labels.ensures,
      record {
        drawn = c.draw_labels-drawn.result;
        between = g.E.Sink.written c.draw_labels-drawn.new.error;
        had_failed = g.E.Sink.has_failed c.draw_labels-drawn.new.error;
        outcome = (c.draw_labels-drawn.ensures.outcome, c.draw_labels-drawn.ensures.defects, c.draw_labels-drawn.ensures.hint);
        told = rw c.is_closed-in-Labels.ensures at c.tell_label-in-Labels.ensures.told;
      },
    )
