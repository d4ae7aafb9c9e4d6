use Rattle.std.proofs.Common.{◌∙◌}
use Rattle.tt_label.proofs.begun.unstepped_units.Goals as goal

pub returns-clause-exact : goal.returns-clause-exact
returns-clause-exact c = rw (← c.sized.view_is) (rw c.sized.invariant.1 at c.text_units.ensures.exact)

pub returns-clause-known : goal.returns-clause-known
returns-clause-known c = rw (← c.sized.view_is) (rw c.sized.invariant.1 at c.text_units.ensures.known)
