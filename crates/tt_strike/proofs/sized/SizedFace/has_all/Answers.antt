use Rattle.tt_strike.proofs.sized.SizedFace.has_all.Goals as goal

pub returns-clause-exact : goal.returns-clause-exact
returns-clause-exact c = rw (← c.self.view_is) (rw c.self.invariant.1 at c.has_all.ensures.exact)
