use Rattle.std.proofs.Common.{◌∙◌, length, sym, ap, rules}
use Rattle.tt_cmap.proofs.units.TextUnitsIterator.next.Goals as goal

pub returns-in_default-clause-steps : goal.returns-in_default-clause-steps
returns-in_default-clause-steps c =
    let none = sym c.self.view_is ∙ c.in_default.ensures.first in
    (none, none)

pub invariant_of-self : goal.invariant_of-self
invariant_of-self c = c.in-Some.ensures.utf8

pub returns-clause-steps : goal.returns-clause-steps
returns-clause-steps c = sym c.self.view_is ∙ c.in-Some.ensures.first

pub returns-clause-goes : goal.returns-clause-goes
returns-clause-goes c =
    let shorter = ap length (sym c.self.view_is ∙ c.in-Some.ensures.first) in
    search rules
