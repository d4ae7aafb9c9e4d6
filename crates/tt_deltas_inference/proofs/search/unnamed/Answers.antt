use Rattle.tt_deltas_inference.proofs.Named.{none_more}
use Rattle.tt_deltas_inference.proofs.search.unnamed.Goals as goal

pub loop-i-preserved : goal.loop-i-preserved
loop-i-preserved c = none_more c.args.points.now c.loop-i.i _ c.loop-i-test.true c.loop-i.invariant c.if-points-i.false
