use Rattle.tt_render.proofs.label_answers.answer_composed.Goals as goal

pub returns-clause-defects : goal.returns-clause-defects
returns-clause-defects c = λ sized. c.in_ok-drawn.ensures.defects sized
