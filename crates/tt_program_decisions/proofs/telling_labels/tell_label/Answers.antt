use Rattle.std.proofs.Common.{◌≡◌, false, rules}
use Rattle.tt_render_settings.specs.Help.{label_lines_of}
use Rattle.tt_program_decisions.proofs.telling_labels.tell_label.Goals as goal

pub returns-else-failed-clause-told : goal.returns-else-failed-clause-told
returns-else-failed-clause-told g c =
    let unclosed : c.args.closed ≡ false = search rules in
    let serves : g.E.Sink.has_failed c.args.error.now ≡ false = search rules in
    rw (c.in-Err.is, unclosed, serves)
    (rw c.texts_status-status.ensures at
    (c.tell_text.ensures.told (label_lines_of c.args.label.now c.args.folder c.in-Err.fault c.args.drawn.now.hint) c.label_lines-lines.ensures))
