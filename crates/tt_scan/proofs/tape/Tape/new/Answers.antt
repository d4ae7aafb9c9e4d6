use Rattle.std.proofs.Common.{[], refl}
use Rattle.tt_scan.proofs.Gaps.{none_entered}
use Rattle.tt_scan.proofs.Reached.{empty_table}
use Rattle.tt_scan.proofs.tape.Tape.new.Goals as goal

pub invariant_of-result : goal.invariant_of-result
invariant_of-result c = rw c.new.ensures.edges (
  c.requires,
  (none_entered c.args.frame [] (empty_table c.args.frame)).rows,
  c.new-2.ensures.ready c.args.frame,
)

pub returns : goal.returns
returns c = rw (c.new.ensures.edges, c.new.ensures.crosses) refl
