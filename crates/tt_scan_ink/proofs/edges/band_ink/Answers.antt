use Rattle.std.proofs.Common.{length}
use Rattle.tt_scan_ink.proofs.Counts.{all_fit}
use Rattle.tt_scan_ink.proofs.edges.band_ink.Goals as goal

pub rows_ink-ink-requires-clause-count : goal.rows_ink-ink-requires-clause-count
rows_ink-ink-requires-clause-count c =
    rw (c.in_ok-tape.ensures, c.frame_of.ensures.exact)
    (all_fit c.args.height (length c.args.list.edges) c.requires.few c.requires.edges)
