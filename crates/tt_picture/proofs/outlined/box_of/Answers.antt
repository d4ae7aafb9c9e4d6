use Rattle.tt_picture.proofs.OutlineBox.{outline_box_fits}
use Rattle.tt_picture.proofs.outlined.box_of.Goals as goal

pub returns-in-Some-clause-exact : goal.returns-in-Some-clause-exact
returns-in-Some-clause-exact c = rw c.in-Some.is at c.requires.same

pub returns-in-Some-clause-fits : goal.returns-in-Some-clause-fits
returns-in-Some-clause-fits c =
    rw (rw c.in-Some.is at c.requires.same) (outline_box_fits _ c.requires.outline)
