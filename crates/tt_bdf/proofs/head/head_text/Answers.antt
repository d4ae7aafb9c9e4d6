use Rattle.tt_bdf.proofs.head.head_text.Goals as goal

pub returns : goal.returns
returns c =
    rw (c.in_ok-first.ensures, c.in_ok-extent.ensures, c.in_ok-properties.ensures, c.in_ok-count.ensures, c.spacing_of-spacing.ensures, c.ink_extent.ensures.exact, c.default_character.ensures) at c.format.ensures.ok
