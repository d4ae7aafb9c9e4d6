use Rattle.tt_bdf.proofs.head.properties_text.Goals as goal

pub returns : goal.returns
returns c =
    rw (c.in_ok-names.ensures, c.in_ok-sizes.ensures, c.in_ok-lines.ensures, c.in_ok-default.ensures, c.property_count.ensures) at c.format.ensures.ok
