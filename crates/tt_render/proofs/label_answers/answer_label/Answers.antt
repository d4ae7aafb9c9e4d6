use Rattle.tt_render.specs.Labels.{composed_text}
use Rattle.tt_render.proofs.label_answers.answer_label.Goals as goal

pub returns-clause-defects : goal.returns-clause-defects
unfolding composed_text
returns-clause-defects c =
    rw (c.deref.ensures, c.in_ok-text.ensures.exact, c.cmap.ensures.exact, c.face.ensures) at c.answer_composed.ensures.defects
