use Rattle.std.proofs.Common.{SFits, w64, arith}
use Rattle.std.proofs.lemmas.Int.{ints, to_z-of_z}
use Rattle.tt_scan_gaps.proofs.Bounds.{crosses_near}
use Rattle.tt_scan_gaps.proofs.both_ways.mark_crossing.Goals as goal

pub look-requires-clause-gap : goal.look-requires-clause-gap
look-requires-clause-gap c =
    let gap : SFits w64 c.gap_crossed-gap.result = omega (arith, ints, c.gap_crossed-gap.ensures.small) in
    simp to_z-of_z (rw c.gap_crossed-gap.ensures.exact (crosses_near c.args.edge c.args.k c.requires.edge c.requires.within).1)

pub look-requires-clause-line : goal.look-requires-clause-line
look-requires-clause-line c =
    let line : SFits w64 c.line_crossed-line.result = omega (arith, ints, c.line_crossed-line.ensures.small) in
    simp to_z-of_z (rw c.line_crossed-line.ensures.exact (crosses_near c.args.edge c.args.k c.requires.edge c.requires.within).0)
