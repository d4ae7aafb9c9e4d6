use Rattle.std.proofs.Common.{refl}
use Rattle.tt_strike.proofs.strike.Strike.measure.Goals as goal

pub returns-clause-exact : goal.returns-clause-exact
returns-clause-exact c = rw (← c.self.view_is) c.measure.ensures.exact

pub returns-clause-report : goal.returns-clause-report
returns-clause-report c = rw (← c.self.view_is) c.measure.ensures.report

pub returns-clause-cost : goal.returns-clause-cost
returns-clause-cost c = rw (← c.self.view_is) c.measure.ensures.cost

pub returns-clause-defects : goal.returns-clause-defects
returns-clause-defects c = rw (← c.self.view_is) c.measure.ensures.defects

pub returns-clause-job : goal.returns-clause-job
returns-clause-job c = rw (← c.self.view_is) c.measure.ensures.job

pub invariant_of-self : goal.invariant_of-self
invariant_of-self c =
    let before = c.self.invariant in (
      rw c.measure.ensures.same c.measure.ensures.cache,
      rw c.measure.ensures.limit before.1,
    )

pub returns-clause-same : goal.returns-clause-same
returns-clause-same c = rw (c.measure.ensures.same, ← c.self.view_is) refl
