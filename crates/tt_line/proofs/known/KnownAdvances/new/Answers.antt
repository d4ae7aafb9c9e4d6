use Rattle.std.proofs.lemmas.List.Elements.{All-replicate}
use Rattle.tt_cmap.specs.Units.{plain_unit}
use Rattle.tt_line.specs.Known.{IsKnown, Source}
use Rattle.tt_line.specs.declared.known.KnownAdvance.{KnownAdvance}
use Rattle.tt_line.proofs.known.KnownAdvances.new.Goals as goal

pub invariant_of-result : goal.invariant_of-result
invariant_of-result c =
    let source : Source = record { metrics = c.args.metrics.now; cmap = c.args.cmap.now; ppem = c.args.ppem } in
    let all = All-replicate (λ (e : KnownAdvance). IsKnown source (plain_unit e.code) e.step) 128 (record { code = 0; step = c.found.result }) c.found.ensures in
    (c.requires.size, c.requires.glyphs, all)
