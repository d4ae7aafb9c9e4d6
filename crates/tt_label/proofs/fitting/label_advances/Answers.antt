use Rattle.std.proofs.Common.{◌∙◌}
use Rattle.tt_label.proofs.fitting.label_advances.Goals as goal

pub returns-clause-exact : goal.returns-clause-exact
returns-clause-exact c = rw (← c.sized.view_is) (rw c.sized.invariant.1 at c.label_steps.ensures.exact)

pub returns-clause-known : goal.returns-clause-known
returns-clause-known c = rw (← c.sized.view_is) (rw c.sized.invariant.1 at c.label_steps.ensures.known)
