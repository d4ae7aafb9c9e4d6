use Rattle.tt_c_labels.proofs.drawing.label_face.Goals as goal

pub returns-clause-defects : goal.returns-clause-defects
returns-clause-defects c =
    rw (c.opening.ensures, c.asked.ensures, c.asked_instance-instance.ensures) at c.opened_face.ensures.defects
