use Rattle.tt_program_faces.proofs.listing.fault_line.Goals as goal

pub returns : goal.returns
returns c =
    rw (← c.tag-table.ensures.text, ← c.fault.view_is, ← c.number-number.ensures, ← c.name-name.ensures)
    c.format.ensures.ok
