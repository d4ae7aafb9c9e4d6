use Rattle.std.proofs.Common.{◌%◌}
use Rattle.std.proofs.lemmas.List.Elements.{All-set}
use Rattle.tt_cmap.specs.Units.{plain_unit}
use Rattle.tt_line.specs.Known.{IsKnown, Source}
use Rattle.tt_line.specs.declared.known.KnownAdvance.{KnownAdvance}
use Rattle.tt_line.proofs.known.KnownAdvances.plain_step.Goals as goal

pub invariant_of-self : goal.invariant_of-self
invariant_of-self c =
    let held = c.self.inside in
    let source : Source = record { metrics = held.metrics.now; cmap = held.cmap.now; ppem = held.ppem } in
    let was = c.self.invariant in
    (was.0, was.1, All-set (λ (e : KnownAdvance). IsKnown source (plain_unit e.code) e.step) held.known (c.args.c % 128) (record { code = c.args.c; step = c.found-step.result }) c.found-step.ensures was.2)
