use Rattle.std.proofs.Common.{true}
use Rattle.std.specs.Fmt.{digits}
use Rattle.tt_render_streams.proofs.Text.{padded_to_four}
use Rattle.tt_render_texts.proofs.texts_messages.texts_line.Goals as goal

pub returns-in-Font : goal.returns-in-Font
returns-in-Font c =
    let written = rw (c.in_ok-head.ensures, c.named_line.ensures, c.in-Font.is) at c.format.ensures.ok in
    rw (c.in-Font.is, ← c.tag-table.ensures.text, ← c.fault.view_is, ← c.number-code.ensures, ← c.name-name.ensures)
    written

pub returns-in-Job : goal.returns-in-Job
returns-in-Job c =
    let written = rw (c.in_ok-head.ensures, c.named_line.ensures, c.in-Job.is) at c.format-in-Job.ensures.ok in
    rw (c.in-Job.is, ← c.number-code-in-Job.ensures, ← c.name-name-in-Job.ensures) written

pub returns-in-Missing : goal.returns-in-Missing
returns-in-Missing c =
    let written = rw (c.in_ok-head.ensures, c.named_line.ensures, c.in-Missing.is, c.laid_out.ensures, c.in_radix.ensures)
    at c.format-in-Missing.ensures.ok in
    rw (c.in-Missing.is, ← padded_to_four (digits 16 true c.in-Missing.c)) written
