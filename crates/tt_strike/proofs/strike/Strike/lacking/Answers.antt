use Rattle.std.proofs.Common.{refl, sym}
use Rattle.tt_strike.proofs.strike.Strike.lacking.Goals as goal

pub returns-then-has_all-clause-exact : goal.returns-then-has_all-clause-exact
returns-then-has_all-clause-exact c =
    rw (c.new.ensures.items, ← c.self.view_is) (sym (c.has_all.ensures.exact.0 c.if-has_all.true))

pub returns-then-has_all-clause-same : goal.returns-then-has_all-clause-same
returns-then-has_all-clause-same c = rw (c.has_all.ensures.same, ← c.self.view_is) refl

pub returns-clause-exact : goal.returns-clause-exact
returns-clause-exact c =
    rw (← c.self.view_is) (rw (c.cmap.ensures.exact, c.face.ensures, c.has_all.ensures.same) at c.lacking.ensures.exact)

pub returns-clause-same : goal.returns-clause-same
returns-clause-same c = rw (c.has_all.ensures.same, ← c.self.view_is) refl

pub invariant_of-self : goal.invariant_of-self
invariant_of-self c =
    let before = c.self.invariant in (
      rw c.has_all.ensures.same before.0,
      before.1,
    )
