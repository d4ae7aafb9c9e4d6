use Rattle.std.proofs.Common.{append_assoc}
use Rattle.tt_render_texts.proofs.texts_messages.Messages.glyph_line.Goals as goal

pub returns : goal.returns
returns c =
    let written = rw c.in_ok-head.ensures at c.format.ensures.ok in
    rw (← c.tag-table.ensures.text, ← c.fault.view_is, ← c.number-code.ensures, ← c.name-name.ensures)
    (simp append_assoc written)
