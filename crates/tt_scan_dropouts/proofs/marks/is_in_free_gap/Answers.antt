use Rattle.std.proofs.Common.{false, sym, ◌∙◌}
use Rattle.tt_scan_dropouts.specs.Seen.{is_black_to}
use Rattle.tt_scan_dropouts.proofs.NoFreeGap.{none_met}
use Rattle.tt_scan_dropouts.proofs.marks.is_in_free_gap.Goals as goal

pub returns-else-meets : goal.returns-else-meets
returns-else-meets c = c.if-meets.false ∙ sym (none_met false (is_black_to c.args.pass) c.args.edge.now
    (sym c.meets.ensures ∙ c.if-meets.false))
