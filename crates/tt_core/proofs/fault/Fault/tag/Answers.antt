use Rattle.std.proofs.Common.{◌∙◌, ap}
use Rattle.tt_core.specs.Faults.{Fault}
use Rattle.tt_core.proofs.Text.{IsUtf8-from_test}
use Rattle.tt_core.proofs.fault.Fault.tag.Goals as goal

pub unreachable-requires : goal.unreachable-requires
unreachable-requires c = c.in-Err.ensures.cases.0 (IsUtf8-from_test c.self.inside.table c.self.invariant)

pub returns-clause-text : goal.returns-clause-text
returns-clause-text c = c.in-Ok.ensures.cases.0 ∙ ap (λ (f : Fault). f.table) c.self.view_is
