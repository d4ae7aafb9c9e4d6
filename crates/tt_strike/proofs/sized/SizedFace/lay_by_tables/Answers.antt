use Rattle.tt_strike.proofs.sized.SizedFace.lay_by_tables.Goals as goal

pub returns-clause-exact : goal.returns-clause-exact
returns-clause-exact c = rw (← c.self.view_is) (rw c.self.invariant.1 at c.lay.ensures.exact)

pub returns-clause-glyphs : goal.returns-clause-glyphs
returns-clause-glyphs c = rw (← c.self.view_is) (rw c.self.invariant.1 at c.lay.ensures.glyphs)

pub returns-clause-known : goal.returns-clause-known
returns-clause-known c = rw (← c.self.view_is) (rw c.self.invariant.1 at c.lay.ensures.known)

pub returns-clause-fault : goal.returns-clause-fault
returns-clause-fault c = rw (← c.self.view_is) (rw c.self.invariant.1 at c.lay.ensures.fault)
