use Rattle.std.proofs.Common.{◌≡◌, ◌-ℤ◌, ◌*ℤ◌, pos, arith}
use Rattle.std.proofs.lemmas.Int.{ints}
use Rattle.tt_deltas_inference.specs.Inference as is
use Rattle.tt_deltas_inference.proofs.Proportions.{proportion_is}
use Rattle.tt_deltas_inference.proofs.point.in_proportion.Goals as goal

pub returns : goal.returns
returns c =
    let lo = c.args.between.lo in
    let hi = c.args.between.hi in
    let are = c.args.between.are in
    let exact = c.product-more.ensures.exact in
    let made : c.product-more.result.0 ≡ (c.args.p.at -ℤ lo.at) *ℤ (is.rate lo hi -ℤ pos 65536) =
    rw (c.range.ensures.exact, are.growth c.requires.order) at exact in
    let small = are.low.delta in
    rw (proportion_is c.args.p lo hi, ← made) (omega (arith, ints, c.product-more.ensures.few, small))
