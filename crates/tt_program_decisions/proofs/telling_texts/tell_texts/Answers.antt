use Rattle.std.proofs.Common.{◌≡◌, false, rules}
use Rattle.tt_render_texts.specs.TextsMessages.{texts_line_of}
use Rattle.tt_program_decisions.proofs.telling_texts.tell_texts.Goals as goal

pub returns-else-failed-clause-told : goal.returns-else-failed-clause-told
returns-else-failed-clause-told g c =
    let unclosed : c.args.closed ≡ false = search rules in
    let serves : g.E.Sink.has_failed c.args.error.now ≡ false = search rules in
    rw (c.in-Err.is, unclosed, serves)
    (rw c.texts_status-in-Err.ensures at (c.tell_line.ensures.told (texts_line_of c.in-Err.fault) c.texts_line.ensures))
