use Rattle.tt_render_streams.specs.Messages.{line_of}
use Rattle.tt_program_decisions.proofs.telling.tell.Goals as goal

pub returns-else-closed-clause-told : goal.returns-else-closed-clause-told
returns-else-closed-clause-told g c =
    rw (c.in-Err.is, c.if-closed.false)
    (rw c.status-code.ensures at (c.tell_line.ensures.told (line_of c.in-Err.fault) c.line.ensures))
