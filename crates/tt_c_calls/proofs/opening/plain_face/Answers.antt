use Rattle.tt_c_calls.proofs.opening.plain_face.Goals as goal

pub returns-clause-defects : goal.returns-clause-defects
returns-clause-defects c =
    rw (c.plain.ensures, c.reading.ensures, c.asked.ensures, c.asked_instance-instance.ensures) at c.opened_face.ensures.defects
