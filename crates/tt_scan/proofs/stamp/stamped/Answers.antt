use Rattle.std.proofs.lemmas.List.{take_all}
use Rattle.tt_scan.specs.Stamps.{shows}
use Rattle.tt_scan.proofs.Stamped.{span_added}
use Rattle.tt_scan.proofs.stamp.stamped.Goals as goal

pub invariant_of-stamp-clause-near : goal.invariant_of-stamp-clause-near
invariant_of-stamp-clause-near c = c.loop-i.invariant.near

pub invariant_of-stamp-clause-narrow : goal.invariant_of-stamp-clause-narrow
invariant_of-stamp-clause-narrow c = c.loop-i.invariant.narrow

pub invariant_of-stamp-clause-free : goal.invariant_of-stamp-clause-free
invariant_of-stamp-clause-free c = c.loop-i.invariant.free

pub loop-i-preserved : goal.loop-i-preserved
loop-i-preserved c = record {
  shows = λ at.
      span_added c.args.spans.now c.loop-i.i _ at (shows c.loop-i.stamp.0 c.loop-i.stamp.1.1.0 at) (shows c.in_ok-stamp.stamp.low c.in_ok-stamp.stamp.word at)
      c.loop-i-test.true (c.loop-i.invariant.shows at) (c.in_ok-stamp.ensures.shows at);
  near = c.in_ok-stamp.stamp.near;
  narrow = c.in_ok-stamp.stamp.narrow;
  free = c.in_ok-stamp.stamp.free;
}

pub invariant_of-stamp-2-clause-near : goal.invariant_of-stamp-2-clause-near
invariant_of-stamp-2-clause-near c = c.loop-i.invariant.near

pub invariant_of-stamp-2-clause-narrow : goal.invariant_of-stamp-2-clause-narrow
invariant_of-stamp-2-clause-narrow c = c.loop-i.invariant.narrow

pub invariant_of-stamp-2-clause-free : goal.invariant_of-stamp-2-clause-free
invariant_of-stamp-2-clause-free c = c.loop-i.invariant.free

pub returns : goal.returns
returns c = rw (take_all c.loop-i.i c.args.spans.now c.loop-i-test.false) at c.loop-i.invariant.shows
