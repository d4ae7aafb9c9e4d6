use Rattle.tt_render_settings.proofs.help.space_help.Goals as goal

pub returns-in-WidthRange : goal.returns-in-WidthRange
returns-in-WidthRange c =
    let written = rw (c.in_ok-head.ensures, c.in_ok-words.ensures) at c.format.ensures.ok in
    rw c.in-WidthRange.is written
