use Rattle.std.proofs.Common.{refl, arith}
use Rattle.tt_scan_gaps.specs.BothWays.{has_mark}
use Rattle.tt_scan_gaps.proofs.Tables.{kept, marked}
use Rattle.tt_scan_gaps.proofs.both_ways.mark.Goals as goal

pub returns : goal.returns
unfolding has_mark
returns c = record {
  marked = marked c.args.table.now c.args.at (omega arith);
  kept = λ s has. kept c.args.table.now c.args.at s (omega arith) has;
  other = refl;
}
