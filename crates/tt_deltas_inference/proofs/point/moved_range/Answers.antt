use Rattle.std.proofs.Common.{arith}
use Rattle.std.proofs.lemmas.Int.{ints}
use Rattle.tt_deltas_inference.proofs.Proportions.{way_is}
use Rattle.tt_deltas_inference.proofs.point.moved_range.Goals as goal

pub overflow_add-result : goal.overflow_add-result
overflow_add-result c =
    let low = c.requires.low.delta in
    let high = c.requires.high.delta in
    omega (arith, ints, c.range.ensures.few)

pub returns-clause-exact : goal.returns-clause-exact
returns-clause-exact c =
    let low = c.requires.low.delta in
    let high = c.requires.high.delta in
    let exact = c.range.ensures.exact in
    omega (arith, ints, c.range.ensures.few, way_is c.args.lo c.args.hi)

pub returns-clause-few : goal.returns-clause-few
returns-clause-few c =
    let low = c.requires.low.delta in
    let high = c.requires.high.delta in
    omega (arith, ints, c.range.ensures.few)
