use Rattle.std.proofs.Common.{refl}
use Rattle.tt_label.proofs.widths.label_in_width.Goals as goal

pub returns-clause-exact : goal.returns-clause-exact
returns-clause-exact c = rw (← c.strike.view_is) c.draw_in_width.ensures.exact

pub returns-clause-report : goal.returns-clause-report
returns-clause-report c = rw (← c.strike.view_is) c.draw_in_width.ensures.report

pub returns-clause-cost : goal.returns-clause-cost
returns-clause-cost c = rw (← c.strike.view_is) c.draw_in_width.ensures.cost

pub returns-clause-defects : goal.returns-clause-defects
returns-clause-defects c = rw (← c.strike.view_is) c.draw_in_width.ensures.defects

pub invariant_of-strike : goal.invariant_of-strike
invariant_of-strike c =
    let before = c.strike.invariant in (
      rw c.draw_in_width.ensures.same c.draw_in_width.ensures.cache,
      rw c.draw_in_width.ensures.limit before.1,
    )

pub returns-clause-same : goal.returns-clause-same
returns-clause-same c = rw (c.draw_in_width.ensures.same, ← c.strike.view_is) refl
